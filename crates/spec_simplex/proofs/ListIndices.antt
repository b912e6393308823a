-- Reading lists by an index, also past their ends.
--
-- `by_lt`: what follows for an index below n, and for one of at least n, holds.
-- `set_reads`: after item i of a list is set to v, reading gives v at i and the old items elsewhere.
-- `past_rows`: an entry past the last row is 0.
-- `past_row`: an entry past the end of its row is 0.
use Rattle.std.proofs.Common.{◌≡◌, ℕ, ◌<◌, ◌≤◌, List, [], length, get_or, set}
use Rattle.std.proofs.Common.{cond, nat_eq, ap, ◌∙◌, arith, eq-eqb, ne_eqb, ⊎_elim}
use Rattle.std.proofs.lemmas.Bool.{cases_lt}
use Rattle.std.proofs.lemmas.List.{get_or-set_same, get_or-set_other, get_or_past}
use Rattle.spec_exact.specs.Fraction.{ℚ, 0ℚ}
use Rattle.spec_pivot.proofs.Pivot.{by_eq}
use Rattle.spec_simplex.specs.Tableau.{at_place}

pub by_lt : {P : Type 0} (i n : ℕ) → (i < n → P) → (n ≤ i → P) → P
by_lt i n f g = ⊎_elim f g (cases_lt i n)

pub set_reads : {A : Type 0} (xs : List A) (i : ℕ) (v d : A) → i < length xs → (k : ℕ) →
    get_or (set xs i v) k d ≡ cond (nat_eq k i) v (get_or xs k d)
set_reads xs i v d h k =
    by_eq k i
    (λ e. rw (eq-eqb k i e) (ap (λ k. get_or (set xs i v) k d) e ∙ get_or-set_same xs i v d h))
    (λ n. rw (ne_eqb k i n) (get_or-set_other xs i k v d n))

pub past_rows : (rows : List (List ℚ)) (i k : ℕ) → length rows ≤ i → at_place rows i k ≡ 0ℚ
past_rows rows i k h = ap (λ row. get_or row k 0ℚ) (get_or_past rows i [] h) ∙ get_or_past [] k 0ℚ (omega arith)

pub past_row : (rows : List (List ℚ)) (i k n : ℕ) → length (get_or rows i []) ≡ n → n ≤ k → at_place rows i k ≡ 0ℚ
past_row rows i k n e h = get_or_past (get_or rows i []) k 0ℚ (omega (arith, e, h))
