-- The entries of a new column are in the order of their rows, and the column may be kept.
--
-- `puts_pair`: where pairs of a name and a number give entries, the first names a row, no earlier pair names it, and
--   the later ones give the rest.
-- `column_of-kept`: a new column with a valid name and entries in order may be kept.
-- `new_column-ok`: where a new column is not refused, its name is valid and free, there is room, and its pairs give
--   entries.
-- `new_column-kept`: a new column with numbers of 127 bits that is not refused leaves a model one that sessions may
--   hold.
use Rattle.std.proofs.Common.{◌≡◌, ℕ, ◌<◌, true, false, not, leb, Some, Ok}
use Rattle.std.proofs.Common.{List, [], ◌∷◌, ◌++◌, All, IsTrue, subst, arith}
use borrow.Author.Tests.{leb-false}
use Rattle.std.proofs.lemmas.Bool.{not-false}
use Rattle.std.proofs.lemmas.List.Elements.{All-nil, All-head, All-tail}
use Rattle.spec_exact.specs.Fraction.{ℚ}
use Rattle.spec_exact.specs.Narrow.{IsNarrow}
use Rattle.spec_exact.proofs.Narrow.{zero_narrow}
use Rattle.spec_model.specs.Model.{Model, Name, width, height}
use Rattle.spec_model.specs.Kept.{IsModelWithin, IsKeptColumn, IsNarrowColumn, usual_limits}
use Rattle.spec_model.specs.Kept.{AreEntries, is_name, column_limit, row_place}
use Rattle.spec_edit.specs.Changes.{with_entry, with_column}
use Rattle.spec_edit.specs.Edited.{Pairs, row_named, is_given, entries_of, column_of, is_column_taken, new_column}
use Rattle.spec_model.proofs.NamePlaces.{row_inside}
use Rattle.spec_model.proofs.KeptModels.{zero_bound}
use Rattle.spec_edit.proofs.Searches.{step_ok, test_ok, known_ok, same_ok}
use Rattle.spec_edit.proofs.Keeping.{with_column-kept, with_entry-kept, with_entry-narrow}

-- ---- a pair after the other

-- the pair p names a row, no pair before it has its name, and once its number is put in that row the pairs after it
-- give the entries `out`
pub record PutsPair (m : Model) (before : Pairs) (p : Name × ℚ) (pairs : Pairs) (es out : List (ℕ × ℚ)) : Type 0 where
  pub place : ℕ
  pub names : row_place m p.0 ≡ Some place
  pub first : is_given p.0 before ≡ false
  pub rest : entries_of m (before ++ p ∷ []) pairs (with_entry place p.1 es) ≡ Ok out

pub puts_pair : (m : Model) (before : Pairs) (p : Name × ℚ) (pairs : Pairs) (es out : List (ℕ × ℚ)) →
    entries_of m before (p ∷ pairs) es ≡ Ok out → PutsPair m before p pairs es out
puts_pair m before p pairs es out h =
    let a = step_ok (row_named m p.0) _ out h in
    let b = test_ok (is_given p.0 before) _ _ out a.2 in
    record { place = a.0; names = known_ok (row_place m p.0) p.0 a.0 a.1; first = b.0; rest = b.1 }

-- entries in order stay in order when the entries of further pairs are set among them
entries_of-kept : (m : Model) (before pairs : Pairs) (es out : List (ℕ × ℚ)) →
    entries_of m before pairs es ≡ Ok out → AreEntries (height m) es → AreEntries (height m) out
entries_of-kept m before [] es out h k = subst (AreEntries (height m)) (same_ok es out h) k
entries_of-kept m before (p ∷ pairs) es out h k =
    let s = puts_pair m before p pairs es out h in
    entries_of-kept m (before ++ p ∷ []) pairs (with_entry s.place p.1 es) out s.rest
    (with_entry-kept (height m) s.place p.1 es k (row_inside m p.0 s.place s.names))

-- entries of 127 bits stay within 127 bits when the entries of further pairs of 127 bits are set among them
entries_of-narrow : (m : Model) (before pairs : Pairs) (es out : List (ℕ × ℚ)) →
    entries_of m before pairs es ≡ Ok out → All (λ e. IsNarrow e.1) es → All (λ p. IsNarrow p.1) pairs →
    All (λ e. IsNarrow e.1) out
entries_of-narrow m before [] es out h k narrow = subst (All (λ (e : ℕ × ℚ). IsNarrow e.1)) (same_ok es out h) k
entries_of-narrow m before (p ∷ pairs) es out h k narrow =
    let s = puts_pair m before p pairs es out h in
    entries_of-narrow m (before ++ p ∷ []) pairs (with_entry s.place p.1 es) out s.rest
    (with_entry-narrow s.place p.1 es k (All-head (λ p. IsNarrow p.1) p pairs narrow))
    (All-tail (λ p. IsNarrow p.1) p pairs narrow)

-- ---- the column

-- the empty list is a list of entries in order
no_entries : (n : ℕ) → AreEntries n []
no_entries n =
    record {
      inside = All-nil (λ e. e.0 < n);
      ascending = λ i j d l k. absurd (omega arith);
      not_zero = λ k d l. absurd (omega arith);
    }

pub column_of-kept : (n : ℕ) (name : Name) (cost : ℚ) (es : List (ℕ × ℚ)) → IsTrue (is_name name) → AreEntries n es →
    IsKeptColumn n (column_of name cost es)
column_of-kept n name cost es named k = record { name = named; lower = zero_bound; upper = tt; entries = k }

-- a new column whose cost and entries have 127 bits has numbers of 127 bits
column_of-narrow : (name : Name) (cost : ℚ) (es : List (ℕ × ℚ)) → IsNarrow cost → All (λ e. IsNarrow e.1) es →
    IsNarrowColumn (column_of name cost es)
column_of-narrow name cost es c k = record { cost = c; lower = zero_narrow; upper = tt; entries = k }

-- n is the model m with a new column: its name is valid and free, there is room for it, and its pairs give its entries
pub record NewColumn (m n : Model) (name : Name) (cost : ℚ) (pairs : Pairs) : Type 0 where
  pub named : is_name name ≡ true
  pub free : is_column_taken m name ≡ false
  pub few : width m < column_limit
  pub entries : List (ℕ × ℚ)
  pub given : entries_of m [] pairs [] ≡ Ok entries
  pub model : with_column m (column_of name cost entries) ≡ n

pub new_column-ok : (m n : Model) (name : Name) (cost : ℚ) (pairs : Pairs) → new_column m name cost pairs ≡ Ok n →
    NewColumn m n name cost pairs
unfolding new_column
new_column-ok m n name cost pairs h =
    let a = test_ok (not (is_name name)) _ _ n h in
    let b = test_ok (is_column_taken m name) _ _ n a.1 in
    let c = test_ok (leb column_limit (width m)) _ _ n b.1 in
    let d = step_ok (entries_of m [] pairs []) _ n c.1 in
    record {
      named = not-false (is_name name) a.0;
      free = b.0;
      few = leb-false column_limit (width m) c.0;
      entries = d.0;
      given = d.1;
      model = same_ok _ n d.2;
    }

pub new_column-kept : (m n : Model) (name : Name) (cost : ℚ) (pairs : Pairs) → IsModelWithin usual_limits m →
    IsNarrow cost →
    All (λ p. IsNarrow p.1) pairs → new_column m name cost pairs ≡ Ok n → IsModelWithin usual_limits n
new_column-kept m n name cost pairs k c narrow h =
    let s = new_column-ok m n name cost pairs h in
    subst (IsModelWithin usual_limits) s.model
    (with_column-kept m (column_of name cost s.entries) k s.few s.free
    (column_of-kept (height m) name cost s.entries s.named
    (entries_of-kept m [] pairs [] s.entries s.given (no_entries (height m))))
    (column_of-narrow name cost s.entries c
    (entries_of-narrow m [] pairs [] s.entries s.given (All-nil (λ e. IsNarrow e.1)) narrow)))
