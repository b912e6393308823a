-- The pairs of a new column, of which some have been read and words are left.
--
-- `one_read`: reading a row's name and a number off the words that are left adds this pair to those read.
-- `none_left`: where fewer than two words are left, the pairs read are all pairs of the words.
use Rattle.std.proofs.Common.{◌≡◌, ◌≤◌, ◌<◌, ℕ, ◌-◌, List, [], ◌∷◌, ◌++◌, Option, Some, None, option_map, Ok, Err}
use Rattle.std.proofs.Common.{length, take, drop, slice_index_or, refl, ap, sym, ◌∙◌, subst, append_assoc, append-nil}
use Rattle.std.proofs.Common.{arith}
use Rattle.std.specs.Prelude.{IfSome}
use Rattle.std.proofs.lemmas.List.{take_all}
use Rattle.std.proofs.lemmas.Option.{IfSome_then}
use Rattle.spec_exact.specs.Fraction.{ℚ}
use Rattle.spec_model.specs.Model.{Name}
use Rattle.spec_edit.specs.Edited.{Pairs}
use Rattle.spec_server.specs.declared.command.LineFault.{LineFault}
use Rattle.spec_server.specs.EditCommand.{Reads, ◌>>=◌, number_in, two_by_two, numbers_in}

-- words two by two
abbrev pub Words : Type 0
Words = List (List ℕ × List ℕ)

-- the pairs of all words are these, and those of the words that are left after them
pub record PairsLeft (all : Words) (left : List (List ℕ)) (pairs : Pairs) : Type 0 where
  pub rest : Words
  pub paired : two_by_two left ≡ Some rest
  pub numbers : numbers_in all ≡ (numbers_in rest >>= λ more. Ok (pairs ++ more))

-- ---- the first two words

-- where a name, a value and other words make pairs, these are the name with the value and then the pairs of the other
-- words
behind : (name value : List ℕ) (others : List (List ℕ)) (rest : Words) →
    two_by_two (name ∷ value ∷ others) ≡ Some rest →
    (more : Words) × (two_by_two others ≡ Some more) × (rest ≡ (name, value) ∷ more)
unfolding two_by_two
behind name value others rest e = by (two_by_two others) refl e
  where
    by : (o : Option Words) → two_by_two others ≡ o → option_map (λ pairs. (name, value) ∷ pairs) o ≡ Some rest →
        (more : Words) × (two_by_two others ≡ Some more) × (rest ≡ (name, value) ∷ more)
    by None is e = absurd (let h = e in cc)
    by (Some more) is e = (more, is, let same : rest ≡ (name, value) ∷ more = cc in same)

-- reading a pair and then more pairs, behind some pairs, is reading more pairs behind these and the pair
one_more : (answer : Reads Pairs) (pairs : Pairs) (p : Name × ℚ) →
    ((answer >>= λ rest. Ok (p ∷ rest)) >>= λ more. Ok (pairs ++ more)) ≡
    (answer >>= λ more. Ok ((pairs ++ p ∷ []) ++ more))
one_more (Ok rest) pairs p = ap Ok (sym (append_assoc pairs (p ∷ []) rest))
one_more (Err why) pairs p = refl

module _ {all : Words} {name value : List ℕ} {others : List (List ℕ)} {pairs : Pairs}
    (left : PairsLeft all (name ∷ value ∷ others) pairs) where
  -- where a name and a value are left, reading all pairs is reading the value, and then the pairs behind it, behind the
  -- pairs read
  numbers_behind : (more : Words) → left.rest ≡ (name, value) ∷ more → (answer : Reads ℚ) → number_in value ≡ answer →
      numbers_in all ≡ ((answer >>= λ v. numbers_in more >>= λ rest. Ok ((name, v) ∷ rest)) >>=
      λ more. Ok (pairs ++ more))
  unfolding numbers_in
  numbers_behind more is answer e =
      left.numbers ∙ ap (λ (w : Words). numbers_in w >>= λ more. Ok (pairs ++ more)) is
      ∙ ap (λ (a : Reads ℚ). (a >>= λ v. numbers_in more >>= λ rest. Ok ((name, v) ∷ rest)) >>=
      λ more. Ok (pairs ++ more)) e

  -- where the value of the first pair left reads as v, the words behind it are left, and the pairs read have it at
  -- their end
  pair_read : (v : ℚ) → number_in value ≡ Ok v → PairsLeft all others (pairs ++ (name, v) ∷ [])
  pair_read v e =
      let first = behind name value others left.rest left.paired in
      record {
        rest = first.0;
        paired = first.1;
        numbers = numbers_behind first.0 first.2 (Ok v) e ∙ one_more (numbers_in first.0) pairs (name, v);
      }

  -- where reading the value of the first pair left gives a fault, reading all pairs gives this fault
  pair_fault : (why : LineFault) → number_in value ≡ Err why → numbers_in all ≡ Err why
  pair_fault why e =
      let first = behind name value others left.rest left.paired in
      numbers_behind first.0 first.2 (Err why) e

-- ---- a list that has two words at least

-- a list of at least two words is the first word, the second word and the words behind them
two_first : (words : List (List ℕ)) (name value : List ℕ) → 2 ≤ length words → name ≡ slice_index_or words 0 name →
    value ≡ slice_index_or words 1 value → words ≡ name ∷ value ∷ take (length words - 2) (drop 2 words)
two_first [] name value l n v = absurd (omega arith)
two_first (first ∷ []) name value l n v = absurd (omega arith)
two_first (first ∷ second ∷ others) name value l n v =
    ap (λ (x : List ℕ). x ∷ second ∷ others) (sym n) ∙ ap (λ (y : List ℕ). name ∷ y ∷ others) (sym v)
    ∙ ap (λ (rest : List (List ℕ)). name ∷ value ∷ rest) (sym (take_all _ others (omega arith)))

module _ (words : List (List ℕ)) (all : Words) (pairs : Pairs) (left : PairsLeft all words pairs) (name value : List ℕ)
    (two : 2 ≤ length words) (n : name ≡ slice_index_or words 0 name) (v : value ≡ slice_index_or words 1 value) where
  -- where at least two words are left, they are a name, a value and the words behind these
  two_left : PairsLeft all (name ∷ value ∷ take (length words - 2) (drop 2 words)) pairs
  two_left = subst (λ (ws : List (List ℕ)). PairsLeft all ws pairs) (two_first words name value two n v) left

  -- where the word behind the first name that is left reads as v, the words behind these two are left, and the pairs
  -- read have this one at their end
  first_read : (v : ℚ) → number_in value ≡ Ok v →
      PairsLeft all (take (length words - 2) (drop 2 words)) (pairs ++ (name, v) ∷ [])
  first_read v e = pair_read two_left v e

  -- where reading the word behind the first name that is left gives a fault, reading all pairs gives this fault
  pub first_fault : (why : LineFault) → number_in value ≡ Err why → numbers_in all ≡ Err why
  first_fault why e = pair_fault two_left why e

-- a pair more was read
pub one_read : (whole words : List (List ℕ)) (pairs new : Pairs) (name value row : List ℕ) (v : ℚ) →
    IfSome (two_by_two whole) (λ all. PairsLeft all words pairs) → 2 ≤ length words →
    name ≡ slice_index_or words 0 name → value ≡ slice_index_or words 1 value →
    number_in value ≡ Ok v → row ≡ name → new ≡ pairs ++ (row, v) ∷ [] →
    IfSome (two_by_two whole) (λ all. PairsLeft all (take (length words - 2) (drop 2 words)) new)
one_read whole words pairs new name value row v left two n w e same is =
    IfSome_then (two_by_two whole) left
    (λ all here.
    subst (λ (ps : Pairs). PairsLeft all (take (length words - 2) (drop 2 words)) ps)
    (ap (λ (r : Name). pairs ++ (r, v) ∷ []) (sym same) ∙ sym is)
    (first_read words all pairs here name value two n w v e))

-- no two words are left
pub none_left : (all : Words) (left : List (List ℕ)) (pairs : Pairs) → PairsLeft all left pairs → length left < 2 →
    numbers_in all ≡ Ok pairs
unfolding two_by_two numbers_in
none_left all [] pairs p l =
    let nothing : p.rest ≡ [] = let h = p.paired in cc in
    p.numbers ∙ ap (λ (w : Words). numbers_in w >>= λ more. Ok (pairs ++ more)) nothing ∙ ap Ok (append-nil pairs)
none_left all (word ∷ []) pairs p l = absurd (let h = p.paired in cc)
none_left all (first ∷ second ∷ others) pairs p l = absurd (omega arith)
