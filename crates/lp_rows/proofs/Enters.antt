-- The column that enters, by a row of reduced costs.
--
-- `none_more`: where no column below k may enter, and k may not, none below k + 1 may.
-- `none_behind`: where no column below n may enter, and none of the d behind, none below n + d may.
-- `way_there`: the direction by the sign of a column's number, its status and whether it is fixed is the tableau's.
use Rattle.std.proofs.Common.{◌≡◌, ℕ, zero, suc, ◌+◌, ◌<◌, ◌≤◌, Option, Some, None, List, length, get_or, pos}
use Rattle.std.proofs.Common.{int_cmp}
use Rattle.std.proofs.Common.{Bool, false, cond, refl, sym, ap, ap₂, ◌∙◌, arith, Ordering, Less, Equal}
use Rattle.std.proofs.Common.{Greater}
use Rattle.std.proofs.lemmas.List.{get_or_default}
use Rattle.std.specs.Ordering.{is_lt, is_gt}
use Rattle.spec_exact.specs.Fraction.{ℚ, over}
use Rattle.spec_exact.specs.Limit.{sign}
use Rattle.spec_exact.proofs.FractionSigns.{below_zero, above_zero}
use Rattle.spec_pivot.specs.declared.status.Status.{Status}
use Rattle.spec_pivot.specs.declared.status.Status.TheVariants.{Basic, AtLower, AtUpper, AtZero}
use Rattle.spec_pivot.specs.declared.status.Way.{Way}
use Rattle.spec_pivot.specs.declared.status.Way.TheVariants.{Up, Down}
use Rattle.spec_simplex.specs.Tableau.{Tableau, form_columns}
use Rattle.spec_simplex.specs.Step.{way_by, way_at, or_enters, entering_below}
use Rattle.lp_natural.specs.Whole.{whole}
use Rattle.lp_natural.specs.declared.words.signed.Signed.{Signed}
use Rattle.lp_ratio.proofs.Fractions.{sign_over}
use Rattle.lp_rows.specs.Row.{at}
use Rattle.lp_rows.specs.Entering.{of_sign, way_of, way_with, IsPriced}
use Rattle.lp_rows.proofs.Done.{item-at}
use Rattle.lp_rows.proofs.Cleared.{fraction-at}

-- ---- the least of many
pub none_more : (t : Tableau) (k : ℕ) → entering_below t k ≡ None → way_at t k ≡ None → entering_below t (k + 1) ≡ None
none_more t k h g = (let z : k + 1 ≡ suc k = omega arith in ap (entering_below t) z) ∙ ap₂ (λ o w. or_enters o k w) h g

-- none of the columns from n on
pub none_behind : (t : Tableau) (n d : ℕ) → entering_below t n ≡ None →
    ((k : ℕ) → n ≤ k → k < n + d → way_at t k ≡ None) → entering_below t (n + d) ≡ None
none_behind t n zero h f = (let z : n + 0 ≡ n = omega arith in ap (entering_below t) z) ∙ h
none_behind t n (suc d) h f =
    (let z : n + suc d ≡ suc (n + d) = omega arith in ap (entering_below t) z)
    ∙ ap₂ (λ o w. or_enters o (n + d) w)
    (none_behind t n d h (λ k l i. f k l (omega (arith, i)))) (f (n + d) (omega arith) (omega arith))

-- ---- by the sign

-- the way of a column by the sign of its reduced cost is the way by the reduced cost
way_is : (s : Status) (d : ℚ) (o : Ordering) → o ≡ sign d → way_of s o ≡ way_by s d
way_is Basic d o e = refl
way_is AtLower d o e = by o ∙ ap (λ a. cond a (Some Up) None) (below_zero d o e)
  where
    by : (o : Ordering) → ◌≡◌ {A = Option Way} (of_sign o (Some Up) None None) (cond (is_lt o) (Some Up) None)
    by Less = refl
    by Equal = refl
    by Greater = refl
way_is AtUpper d o e = by o ∙ ap (λ a. cond a (Some Down) None) (above_zero d o e)
  where
    by : (o : Ordering) →
        ◌≡◌ {A = Option Way} (of_sign o None None (Some Down)) (cond (is_gt o) (Some Down) None)
    by Less = refl
    by Equal = refl
    by Greater = refl
way_is AtZero d o e =
    by o ∙ ap₂ (λ a b. cond a (Some Up) (cond b (Some Down) None)) (below_zero d o e) (above_zero d o e)
  where
    by : (o : Ordering) →
        ◌≡◌ {A = Option Way} (of_sign o (Some Up) None (Some Down))
        (cond (is_lt o) (Some Up) (cond (is_gt o) (Some Down) None))
    by Less = refl
    by Equal = refl
    by Greater = refl

pub way_there : {T : Type 0} (value : T → ℕ) (t : Tableau) (numbers : List (Signed T)) (d k : ℕ)
    (statuses : List Status) (fixed : List Bool) (x : Signed T) (s : Status) (w : Option Way) →
    IsPriced value t numbers d statuses fixed → 0 < d → k < length fixed → length fixed ≤ length numbers →
    length fixed ≤ length statuses → x ≡ get_or numbers k x →
    w ≡ way_with (get_or fixed k false) (get_or statuses k s) (int_cmp (whole x.negative (value x.size)) (pos 0)) →
    way_at t k ≡ w
way_there value t numbers d k statuses fixed x s w h p l m o a e =
    let there : k < form_columns t = omega (arith, l, h.columns) in
    let inside : k < length numbers = omega (arith, l, m) in
    let stood : k < length statuses = omega (arith, l, o) in
    ap₂ (λ u v. cond u None v) (h.fixes k there)
    (ap₂ way_by
    (ap (λ (ys : List Status). get_or ys k Basic) h.status ∙ get_or_default statuses k Basic s stood)
    (h.reduced k there ∙ fraction-at value numbers d k inside)
    ∙ sym (way_is (get_or statuses k s) (over (at value numbers k) d) _
    (ap (λ z. int_cmp z (pos 0)) (sym (item-at value numbers k x inside a))
    ∙ sym (sign_over (at value numbers k) d p))))
    ∙ sym e
