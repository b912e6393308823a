-- How many positions have a column.
--
-- `basic_test`: the status `Basic` passes the test of basic columns.
-- `nonbasic_test`: each other status fails the test of basic columns.
-- `filled_all`: where the count of filled positions below n is n, each of them has a column.
-- `filled_set`: a column set at an empty position below n makes the count one more.
-- `none_is`: a position that has no column has none of all columns.
-- `some_is`: a position that is not empty has some column.
use Rattle.std.proofs.Common.{◌≡◌, ◌≢◌, ℕ, zero, suc, ◌+◌, ◌<◌, ◌≤◌, List, length, get_or, set, Option}
use Rattle.std.proofs.Common.{Some, None, Bool, true, false, cond, refl, sym, ap, ap₂, ◌∙◌, subst, arith}
use Rattle.std.proofs.lemmas.List.{get_or-set_same, get_or-set_other}
use Rattle.spec_pivot.specs.declared.status.Status.{Status}
use Rattle.spec_pivot.specs.declared.status.Status.TheVariants.{Basic, AtLower, AtUpper, AtZero}
use Rattle.spec_pivot.proofs.Pivot.{by_eq}
use Rattle.spec_simplex.specs.Tableau.{is_basic}
use Rattle.spec_simplex.specs.Eliminate.{has_none}

-- ---- the test of a status
pub basic_test : (s : Status) → s ≡ Basic → is_basic s ≡ true
basic_test s e = ap is_basic e

pub nonbasic_test : (s : Status) → ¬ (s ≡ Basic) → is_basic s ≡ false
nonbasic_test Basic n = absurd (n refl)
nonbasic_test AtLower n = refl
nonbasic_test AtUpper n = refl
nonbasic_test AtZero n = refl

-- ---- the count

-- how many of the first n positions have a column
abbrev pub filled : List (Option ℕ) → ℕ → ℕ
filled basic zero = 0
filled basic (suc n) = filled basic n + cond (has_none (get_or basic n None)) 0 1

-- of the first n positions at most n have a column
filled_most : (basic : List (Option ℕ)) (n : ℕ) → filled basic n ≤ n
filled_most basic zero = omega arith
filled_most basic (suc n) = by (has_none (get_or basic n None)) (filled_most basic n)
  where
    by : (c : Bool) → filled basic n ≤ n → filled basic n + cond c 0 1 ≤ suc n
    by true h = omega (arith, h)
    by false h = omega (arith, h)

-- where all have one, each has
pub filled_all : (basic : List (Option ℕ)) (n : ℕ) → filled basic n ≡ n → (i : ℕ) → i < n →
    has_none (get_or basic i None) ≡ false
filled_all basic zero h i l = absurd (let z : ⊥ = omega (arith, l) in z)
filled_all basic (suc n) h i l = by (has_none (get_or basic n None)) refl h (filled_all basic n)
  where
    by : (c : Bool) → has_none (get_or basic n None) ≡ c → filled basic n + cond c 0 1 ≡ suc n →
        (filled basic n ≡ n → (i : ℕ) → i < n → has_none (get_or basic i None) ≡ false)
        → has_none (get_or basic i None) ≡ false
    by true e h more = absurd (let z : ⊥ = omega (arith, h, filled_most basic n) in z)
    by false e h more =
        by_eq i n (λ z. ap (λ i. has_none (get_or basic i None)) z ∙ e)
        (λ z. more (omega (arith, h)) i (omega (arith, l, z)))

-- giving position p a column does not change how many positions before it have one
filled_before : (basic : List (Option ℕ)) (p j n : ℕ) → n ≤ p → filled (set basic p (Some j)) n ≡ filled basic n
filled_before basic p j zero h = refl
filled_before basic p j (suc n) h =
    ap₂ (λ c o. c + cond (has_none o) 0 1) (filled_before basic p j n (omega (arith, h)))
    (get_or-set_other basic p n (Some j) None (λ e. let z : ⊥ = omega (arith, h, e) in z))

-- one more position
pub filled_set : (basic : List (Option ℕ)) (p j n : ℕ) → p < n → p < length basic →
    has_none (get_or basic p None) ≡ true → filled (set basic p (Some j)) n ≡ filled basic n + 1
filled_set basic p j zero h l e = absurd (let z : ⊥ = omega (arith, h) in z)
filled_set basic p j (suc n) h l e =
    by_eq p n
    (λ z. subst (λ n. filled (set basic p (Some j)) (suc n) ≡ filled basic (suc n) + 1) z
    (ap₂ (λ c o. c + cond (has_none o) 0 1) (filled_before basic p j p (omega arith))
    (get_or-set_same basic p (Some j) None l)
    ∙ sym (ap (λ c. filled basic p + cond c 0 1 + 1) e
    ∙ (let y : filled basic p + 0 + 1 ≡ filled basic p + 1 = omega arith in y))))
    (λ z. let rest : filled (set basic p (Some j)) n ≡ filled basic n + 1 =
    filled_set basic p j n (omega (arith, h, z)) l e in
    ap₂ (λ c o. c + cond (has_none o) 0 1) rest (get_or-set_other basic p n (Some j) None (λ y. z (sym y)))
    ∙ (let y : filled basic n + 1 + cond (has_none (get_or basic n None)) 0 1
    ≡ filled basic n + cond (has_none (get_or basic n None)) 0 1 + 1 = omega arith in y))

-- where a position has none, it has none of all columns
pub none_is : (o : Option ℕ) → has_none o ≡ true → (k : ℕ) → o ≢ Some k
none_is None h k e = let z : None ≡ Some k = e in cc
none_is (Some i) h k e = let z : false ≡ true = h in cc

pub some_is : (o : Option ℕ) → has_none o ≡ false → (k : ℕ) × (o ≡ Some k)
some_is None h = let z : true ≡ false = h in cc
some_is (Some k) h = (k, refl)
