-- The edits that lines ask for have numbers of at most 127 bits, and bounds that are less than 10 ^ 20 from 0.
--
-- `then_kept`: where a read value has P, and reading on from each value with P gives Q, the two readings give Q.
-- `any_kept`: where reading on from any value gives Q, the two readings in order give Q.
-- `edit_kept`: an edit read from any words has numbers and bounds that may be kept.
use Rattle.std.proofs.Common.{◌≡◌, ℕ, Bool, true, false, cond, Option, Some, None, Ok, Err, IfOk, IfSome, List, [], ◌∷◌}
use Rattle.std.proofs.Common.{refl}
use Rattle.std.specs.Prelude.{All, codes}
use Rattle.std.proofs.lemmas.List.Elements.{All-nil, All-cons}
use Rattle.spec_text.specs.Words.{same}
use Rattle.spec_exact.specs.Fraction.{ℚ}
use Rattle.spec_exact.specs.Narrow.{IsNarrow}
use Rattle.spec_model.specs.declared.parts.Kind.{Kind}
use Rattle.spec_model.specs.Model.{Name, is_free}
use Rattle.spec_edit.specs.Edited.{Pairs, IsKeptBound, IsKeptEdit}
use Rattle.spec_mps.specs.declared.number.BoundValue.{BoundValue}
use Rattle.spec_mps.specs.declared.number.BoundValue.TheVariants as value
use Rattle.spec_mps.specs.NumberText.{NumberReading, answer, number_of}
use Rattle.spec_mps.specs.NumberText as number
use Rattle.spec_mps.specs.BoundText.{BoundReading, bound_answer, bound_of, infinite}
use Rattle.spec_mps.specs.BoundText as bound
use Rattle.spec_mps.proofs.BoundLemmas.{bound_is_within, abs_from_within}
use Rattle.spec_mps.proofs.NarrowNumbers.{number_narrow, bound_narrow}
use Rattle.spec_server.specs.declared.command.EditWord.{EditWord}
use Rattle.spec_server.specs.declared.command.EditWord.TheVariants.{AddRow, DelRow, AddCol, DelCol, SetCost, SetCoef}
use Rattle.spec_server.specs.declared.command.EditWord.TheVariants.{SetRhs, SetRange, SetBound, Sense as SenseWord}
use Rattle.spec_server.specs.declared.command.LineFault.TheVariants as fault
use Rattle.spec_server.specs.EditCommand.{Reads, ◌>>=◌, as_read, number_in, kind_in, new_range_in, sense_in, range_in}
use Rattle.spec_server.specs.EditCommand.{lower_by, lower_in, upper_by, upper_in, two_by_two, numbers_in, column_in, edit_by}

-- what is read next, by what holds of the value that was read before
pub then_kept : {A B : Type 0} (P : A → Type 0) (Q : B → Type 0) (read : Reads A) (next : A → Reads B) → IfOk read P →
    ((a : A) → P a → IfOk (next a) Q) → IfOk (read >>= next) Q
then_kept P Q (Ok a) next h go = go a h
then_kept P Q (Err why) next h go = tt

-- what is read next has Q where it has it whatever value was read before
pub any_kept : {A B : Type 0} (Q : B → Type 0) (read : Reads A) (next : A → Reads B) → ((a : A) → IfOk (next a) Q) →
    IfOk (read >>= next) Q
any_kept Q (Ok a) next go = go a
any_kept Q (Err why) next go = tt

-- ---- one word

-- a number that is read from a word has at most 127 bits
number_kept : (text : List ℕ) → IfOk (number_in text) IsNarrow
unfolding number_in
number_kept text = by (number_of text) refl
  where
    by : (reading : NumberReading) → number_of text ≡ reading → IfOk (as_read (answer reading)) IsNarrow
    by (number.Is q) e = number_narrow text q e
    by number.Shape e = tt
    by number.Wide e = tt

-- the range of a new row that is read from a word has at most 127 bits
new_range_kept : (kind : Kind) (text : List ℕ) → IfOk (new_range_in kind text) IsNarrow
unfolding new_range_in
new_range_kept kind text = by (is_free kind)
  where
    by : (t : Bool) → IfOk (cond {A = Reads ℚ} t (Err fault.Word) (number_in text)) IsNarrow
    by true = tt
    by false = number_kept text

-- a range, if there is one, has at most 127 bits
abbrev IsKeptRange : Option ℚ → Type 0
IsKeptRange range = IfSome range IsNarrow

-- a range that is read from a word has at most 127 bits, if it is not NONE
range_kept : (text : List ℕ) → IfOk (range_in text) IsKeptRange
unfolding range_in
range_kept text = by (same text (codes "NONE"))
  where
    by : (t : Bool) → IfOk (cond {A = Reads (Option ℚ)} t (Ok None) (number_in text >>= λ v. Ok (Some v))) IsKeptRange
    by true = tt
    by false = then_kept IsNarrow IsKeptRange (number_in text) (λ v. Ok (Some v)) (number_kept text) (λ v h. h)

-- a spelled bound that is finite is one that a kept model may have; of an infinite one nothing is asked
abbrev IsKeptValue : BoundValue ℚ → Type 0
IsKeptValue (value.Finite v) = IsKeptBound (Some v)
IsKeptValue other = Unit {0}

-- a finite bound that is read from a word is less than 10 ^ 20 from 0
value_kept : (text : List ℕ) → IfOk (as_read (bound_answer (bound_of text))) IsKeptValue
value_kept text = by (bound_of text) refl
  where
    by : (reading : BoundReading) → bound_of text ≡ reading → IfOk (as_read (bound_answer reading)) IsKeptValue
    by (bound.Finite q) e = (abs_from_within infinite q (bound_is_within text q e), bound_narrow text q e)
    by bound.PlusInf e = tt
    by bound.MinusInf e = tt
    by bound.Shape e = tt
    by bound.Wide e = tt

-- where a value that is read may be kept, it may be kept as a lower bound and as an upper one
bound_by_kept : (v : BoundValue ℚ) → IsKeptValue v → IfOk (lower_by v) IsKeptBound × IfOk (upper_by v) IsKeptBound
bound_by_kept (value.Finite v) h = (h, h)
bound_by_kept value.MinusInf h = ((tt, tt), tt)
bound_by_kept value.PlusInf h = (tt, (tt, tt))

-- a lower bound that is read from a word is less than 10 ^ 20 from 0, if it is finite
lower_kept : (text : List ℕ) → IfOk (lower_in text) IsKeptBound
unfolding lower_in
lower_kept text =
    then_kept IsKeptValue IsKeptBound (as_read (bound_answer (bound_of text))) lower_by (value_kept text)
    (λ v h. (bound_by_kept v h).0)

-- an upper bound that is read from a word is less than 10 ^ 20 from 0, if it is finite
upper_kept : (text : List ℕ) → IfOk (upper_in text) IsKeptBound
unfolding upper_in
upper_kept text =
    then_kept IsKeptValue IsKeptBound (as_read (bound_answer (bound_of text))) upper_by (value_kept text)
    (λ v h. (bound_by_kept v h).1)

-- ---- pairs

-- the number of each pair has at most 127 bits
abbrev AreKeptPairs : Pairs → Type 0
AreKeptPairs pairs = All (λ p. IsNarrow p.1) pairs

-- the numbers that are read from pairs of words have at most 127 bits
pairs_kept : (pairs : List (List ℕ × List ℕ)) → IfOk (numbers_in pairs) AreKeptPairs
unfolding numbers_in
pairs_kept [] = All-nil (λ (p : Name × ℚ). IsNarrow p.1)
pairs_kept (p ∷ pairs) =
    then_kept IsNarrow AreKeptPairs (number_in p.1) _ (number_kept p.1) λ v h.
    then_kept AreKeptPairs AreKeptPairs (numbers_in pairs) _ (pairs_kept pairs) λ rest k.
    All-cons (λ (p : Name × ℚ). IsNarrow p.1) (p.0, v) rest h k

-- the new column that is read from words has numbers of at most 127 bits
column_kept : (name : Name) (cost : List ℕ) (pairs : Option (List (List ℕ × List ℕ))) →
    IfOk (column_in name cost pairs) IsKeptEdit
column_kept name cost None = tt
column_kept name cost (Some pairs) =
    then_kept IsNarrow IsKeptEdit (number_in cost) _ (number_kept cost) λ c h.
    then_kept AreKeptPairs IsKeptEdit (numbers_in pairs) _ (pairs_kept pairs) λ ps k. (h, k)

-- ---- edits

pub edit_kept : (which : EditWord) (words : List (List ℕ)) → IfOk (edit_by which words) IsKeptEdit
unfolding edit_by
edit_kept AddRow (name ∷ kind ∷ rhs ∷ []) =
    any_kept IsKeptEdit (kind_in kind) _ λ k.
    then_kept IsNarrow IsKeptEdit (number_in rhs) _ (number_kept rhs) λ b h. (h, tt)
edit_kept AddRow (name ∷ kind ∷ rhs ∷ range ∷ []) =
    any_kept IsKeptEdit (kind_in kind) _ λ k.
    then_kept IsNarrow IsKeptEdit (number_in rhs) _ (number_kept rhs) λ b h.
    then_kept IsNarrow IsKeptEdit (new_range_in k range) _ (new_range_kept k range) λ r g. (h, g)
edit_kept DelRow (name ∷ []) = tt
edit_kept AddCol (name ∷ cost ∷ pairs) = column_kept name cost (two_by_two pairs)
edit_kept DelCol (name ∷ []) = tt
edit_kept SetCost (name ∷ value ∷ []) = then_kept IsNarrow IsKeptEdit (number_in value) _ (number_kept value) λ v h. h
edit_kept SetCoef (row ∷ column ∷ value ∷ []) =
    then_kept IsNarrow IsKeptEdit (number_in value) _ (number_kept value) λ v h. h
edit_kept SetRhs (name ∷ value ∷ []) = then_kept IsNarrow IsKeptEdit (number_in value) _ (number_kept value) λ v h. h
edit_kept SetRange (name ∷ value ∷ []) = then_kept IsKeptRange IsKeptEdit (range_in value) _ (range_kept value) λ r h. h
edit_kept SetBound (name ∷ lower ∷ upper ∷ []) =
    then_kept IsKeptBound IsKeptEdit (lower_in lower) _ (lower_kept lower) λ l h.
    then_kept IsKeptBound IsKeptEdit (upper_in upper) _ (upper_kept upper) λ u k. (h, k)
edit_kept SenseWord (sense ∷ []) = any_kept IsKeptEdit (sense_in sense) _ λ s. tt
edit_kept other words = tt
