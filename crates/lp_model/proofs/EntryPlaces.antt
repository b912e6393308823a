-- A binary search among a column's entries finds where that of a row stands or belongs.
use Rattle.std.proofs.Common.{◌≡◌, ℕ, ◌+◌, ◌<◌, ◌≤◌, List, length, get_or, take, drop, Ok, Err, Result}
use Rattle.std.proofs.Common.{sym, ap, subst, arith, length-take, length-drop, get_or-take, get_or-drop}
use Rattle.std.specs.List.{AllPairs, All, HoldsAt}
use Rattle.std.specs.List.Sorted.{IsSearchInRange, IsBinarySearchResult, IsNonDecreasingBy}
use Rattle.std.specs.Ordering.{nat_cmp, ordering_index}
use Rattle.std.proofs.lemmas.Bool.Decides.{nat_tests}
use Rattle.std.proofs.lemmas.Cmp.{ranked}
use Rattle.std.proofs.lemmas.List.Sorted.{IsNonDecreasingBy-from_default}
use Rattle.spec_exact.specs.Fraction.{ℚ, 0ℚ}
use Rattle.lp_model.specs.Place.{IsPlace}

-- entries of a column: pairs of a row's number and a coefficient
abbrev Entries : Type 0
Entries = List (ℕ × ℚ)

-- the rows of the entries rise
abbrev AreAscending : Entries → Type 0
AreAscending = AllPairs (λ d e. d.0 < e.0)

-- the comparisons with a row rise along the entries
comparisons_rise : (es : Entries) (row : ℕ) → AreAscending es →
    IsNonDecreasingBy (λ e. ordering_index (nat_cmp e.0 row)) es
comparisons_rise es row h =
    IsNonDecreasingBy-from_default (λ e. ordering_index (nat_cmp e.0 row)) es (0, 0ℚ) (λ i j le l.
    let rises : (get_or es i (0, 0ℚ)).0 ≤ (get_or es j (0, 0ℚ)).0 =
    grind (arith, h i j (0, 0ℚ), λ (same : i ≡ j). ap (λ k. (get_or es k (0, 0ℚ)).0) same) in
    grind (arith, nat_tests))

-- where each place below k has an entry of an earlier row, all of the first k entries are of earlier rows
all_before : (es : Entries) (k row : ℕ) → ((i : ℕ) (d : ℕ × ℚ) → i < k → i < length es → (get_or es i d).0 < row) →
    All (λ e. e.0 < row) (take k es)
all_before es k row h = λ i d l.
    let inside : (i < k) × (i < length es) = (omega (arith, length-take k es), omega (arith, length-take k es)) in
    let e : get_or (take k es) i d ≡ get_or es i d = get_or-take k es i d inside.0 in
    rw e (h i d inside.0 inside.1)

-- where each place from k on has an entry of a later row, all entries from k on are of later rows
all_behind : (es : Entries) (k row : ℕ) → ((i : ℕ) (d : ℕ × ℚ) → k ≤ i → i < length es → row < (get_or es i d).0) →
    All (λ e. row < e.0) (drop k es)
all_behind es k row h = λ i d l.
    let e : get_or (drop k es) i d ≡ get_or es (k + i) d = get_or-drop k es i d in
    rw e (h (k + i) d (omega arith) (omega (arith, length-drop k es)))

-- what a binary search for a row gives is the place where the row's entry stands or belongs
pub searched : (es : Entries) (row : ℕ) → AreAscending es → (r : Result ℕ ℕ) → IsSearchInRange r (length es) →
    IsBinarySearchResult (λ e. nat_cmp e.0 row) es r → IsPlace row es r
searched es row h (Ok k) inside equal =
    let here : HoldsAt (λ e. e.0 ≡ row) es k = λ d. ranked _ row _ (sym (equal d)) in
    record {
      inside = inside;
      here = here;
      split =
          record {
            before = all_before es k row (λ i d l m. subst (λ r. (get_or es i d).0 < r) (here d) (h i k d l inside));
            behind =
                all_behind es (k + 1) row
                (λ i d l m. subst (λ r. r < (get_or es i d).0) (here d) (h k i d (omega arith) m));
          };
    }
searched es row h (Err k) inside parted =
    let sides = parted (comparisons_rise es row h) in
    record {
      inside = inside;
      split =
          record {
            before = all_before es k row (λ i d l m. ranked _ row _ (sym (sides.0 i d (omega arith) l)));
            behind = all_behind es k row (λ i d l m. ranked _ row _ (sym (sides.1 i d l m)));
          };
    }
