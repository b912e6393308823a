-- A basis shows that its point is optimal exactly where its basic values are within their bounds and its reduced costs
-- have the signs of their statuses.
use Rattle.std.proofs.Common.{◌≡◌, ◌↔◌, ℕ, ◌+◌, ◌<◌, List, length, get_or, Option, Some, None, IfSome, Ok}
use Rattle.std.proofs.Common.{sym, ap, ap₂, ◌∙◌, subst, subst₂, arith}
use Rattle.spec_exact.specs.Fraction.{ℚ, ◌-ℚ◌, ◌*ℚ◌, neg_ℚ, 0ℚ, 1ℚ, ◌≤ℚ◌, ◌<ℚ◌}
use Rattle.spec_exact.proofs.Order.{by_le}
use Rattle.spec_exact.proofs.Strict.{by_sign}
use Rattle.spec_exact.proofs.Sums.{sum_below_same}
use Rattle.spec_model.specs.Model.{Model, Limits, width, height, bounds, limits, coefficient, part, activity}
use Rattle.spec_model.specs.Truth.{IsBetween}
use Rattle.spec_check.specs.Checks.{reduced, IsTight, ChecksOptimal}
use Rattle.spec_pivot.specs.declared.status.Status.{Status}
use Rattle.spec_pivot.specs.declared.status.Status.TheVariants.{Basic, AtLower, AtUpper, AtZero}
use Rattle.spec_pivot.specs.Simplex.{Bounds, Table, IsFixed, IsInside, Stands}
use Rattle.spec_simplex.specs.Form.{formed}
use Rattle.spec_simplex.specs.Start.{cost_at}
use Rattle.spec_simplex.specs.Tableau.{Tableau, value_at, reduced_at, status_at}
use Rattle.spec_simplex.specs.Eliminate.{IsBasisOf, start_from}
use Rattle.spec_simplex.specs.Tables.{table_of}
use Rattle.spec_simplex.proofs.ColumnKinds.{by_kind}
use Rattle.spec_simplex.proofs.FormOfModel.{Limited, formed_proper, cost_length, cost_other}
use Rattle.spec_simplex.proofs.FormOfModel.{lower_structural, upper_structural, lower_logical, upper_logical}
use Rattle.spec_runs.specs.Cold.{point, multipliers}
use Rattle.spec_runs.proofs.FormCosts.{cost_structural}
use Rattle.spec_runs.proofs.EndTight.{weight_at, column_at, logical_is_row}
use Rattle.spec_runs.proofs.EndOptimal.{optimal_checks}
use Rattle.spec_runs.proofs.Shown as shown
use Rattle.spec_pivot.specs.Dual.{Suits, IsDualFeasible}
use Rattle.spec_pivot.proofs.Optimal.{none_eligible, within_where_basic}
use Rattle.spec_runs.specs.Based.{equations, BeginsFrom}
use Rattle.spec_range.proofs.RangedTableau.{IsOf, form_bounds, IsFor, begun, of, is_for, bounded, fixed_after, ordered}
use Rattle.spec_range.proofs.RangedTableau.{status_after}

-- each basic value is within its bounds, and the reduced cost of each column that is not fixed has the sign that suits
-- its status
pub record IsGood (n : ℕ) (b : Bounds) (t : Table) : Type 0 where
  pub inside : (k : ℕ) → k < n → t.status k ≡ Basic → IsInside (b.lower k) (b.upper k) (t.value k)
  pub suits : IsDualFeasible n b t

-- a tight reduced cost has the sign of its status, unless the column is fixed
suits_if : (s : Status) (l u : Option ℚ) (v d : ℚ) → Stands s l u v → (0ℚ <ℚ d → l ≡ Some v) →
    (d <ℚ 0ℚ → u ≡ Some v) → ¬ ((l ≡ Some v) × (u ≡ Some v)) → Suits s d
suits_if Basic l u v d s a b n = tt
suits_if AtLower l u v d s a b n = by_le 0ℚ d (λ h. h) (λ h. absurd (n (s, b h)))
suits_if AtUpper l u v d s a b n = by_le d 0ℚ (λ h. h) (λ h. absurd (n (a h, s)))
suits_if AtZero l u v d s a b n =
    by_sign d
    (λ h. let z : None ≡ Some v = sym s.0 ∙ a h in cc)
    (λ h. let z : None ≡ Some v = sym s.1 ∙ b h in cc)
    (λ h. h)

module _ (limit : Option ℕ) (m : Model) (ls : List (Option ℚ × Option ℚ)) (h : Limited m ls)
    (basis : List Status) (fits : IsBasisOf (formed m ls) basis) (t : Tableau)
    (ok : start_from limit (formed m ls) basis ≡ Ok t) where
  -- the count of the model's columns
  abbrev w : ℕ
  w = width m

  -- the count of the model's rows
  abbrev r : ℕ
  r = height m

  -- the bounds of the model's form, with those of the artificial columns
  abbrev b : Bounds
  b = form_bounds (formed m ls)

  -- the tableau begins from the model's form
  started : BeginsFrom (formed m ls) t
  started = begun limit (formed m ls) (formed_proper m ls h) basis fits (omega (arith, cost_length m ls h)) t ok

  -- the tableau has the form's shape and bounds, and the basis's statuses
  pub parts : IsOf (formed m ls) basis t
  parts = of limit (formed m ls) (formed_proper m ls h) basis fits (omega (arith, cost_length m ls h)) t ok

  -- the tableau is one of the form's equations, costs and bounds
  pub tableau : IsFor (formed m ls) t
  tableau = is_for limit (formed m ls) (formed_proper m ls h) basis fits (omega (arith, cost_length m ls h)) t ok

  -- the tableau's point has a value for each column of the model
  pub x_length : length (point t) ≡ width m
  x_length = shown.point_length r w _ _ _ t started.based.tableau

  -- the tableau's point has in column j the value of the tableau's column j
  pub x_at : (j : ℕ) → j < width m → part (point t) j ≡ value_at t j
  x_at = shown.point_at r w _ _ _ t started.based.tableau

  -- the tableau's multiplier of row i is the reduced cost of the row's logical column
  y_at : (i : ℕ) → i < r → part (multipliers t) i ≡ reduced_at t (w + i)
  y_at = shown.multiplier_at r w _ _ _ t started.based.tableau

  -- where the tableau is good, its point and multipliers show the optimum of the model
  good_checks : IsGood (w + r + r) b (table_of t) → ChecksOptimal m (point t) (multipliers t)
  good_checks g =
      optimal_checks m ls h (λ _. 1ℚ) b (bounded (formed m ls) (formed_proper m ls h))
      (fixed_after (formed m ls) (formed_proper m ls h)) (table_of t) tableau
      (within_where_basic r (w + r + r) (equations (formed m ls)) (cost_at (formed m ls).cost) b (table_of t) tableau
      (ordered (formed m ls) (formed_proper m ls h)) g.inside)
      (point t) x_length x_at (multipliers t) y_at
      (none_eligible (w + r + r) b (table_of t) g.suits)

  -- ---- and back
  -- each artificial column has the value 0 in the tableau
  artificial_zero : (i : ℕ) → i < r → value_at t (w + r + i) ≡ 0ℚ
  artificial_zero i l =
      let k : ℕ = w + r + i in
      let s : status_at t k ≡ AtLower =
      ap (λ s. get_or s k Basic) parts.status ∙ status_after (formed m ls) basis fits i l in
      let z : b.lower k ≡ Some (value_at t k) =
      subst (λ s. Stands s (b.lower k) (b.upper k) (value_at t k)) s (tableau.stands k (omega (arith, l))) in
      let y : Some (value_at t k) ≡ Some 0ℚ = sym z ∙ (fixed_after (formed m ls) (formed_proper m ls h) i l).0 in
      cc

  -- the activity of row i at the tableau's point is the value of the row's logical column
  row_value : (i : ℕ) → i < r → activity m (point t) i ≡ value_at t (w + i)
  row_value i p =
      sum_below_same w _ (λ j. coefficient m i j *ℚ value_at t j)
      (λ j q. ap (λ a. coefficient m i j *ℚ a) (x_at j q))
      ∙ logical_is_row m ls h (λ _. 1ℚ) (value_at t) artificial_zero i p (tableau.solves i p)

  -- the multiplier of row i is the negative of the weight with which the row goes into the reduced costs
  multiplier : (i : ℕ) → i < r → part (multipliers t) i ≡ neg_ℚ (tableau.costs.weights i)
  multiplier i p =
      y_at i p ∙ weight_at m ls h (λ _. 1ℚ)
      (cost_at (formed m ls).cost) (reduced_at t) tableau.costs.weights tableau.costs.less i p (cost_other m ls h i)

  -- the model's reduced cost of column j at the tableau's multipliers is that of the tableau
  reduced_is : (j : ℕ) → j < w → reduced m (multipliers t) j ≡ reduced_at t j
  reduced_is j p =
      sym (column_at m ls h (λ _. 1ℚ) (cost_at (formed m ls).cost) (reduced_at t)
      tableau.costs.weights tableau.costs.less j p
      ∙ ap₂ (λ a c. a -ℚ c) (cost_structural m ls h j p)
      (sum_below_same r _ _ (λ i q. ap (λ a. a *ℚ coefficient m i j) (sym (multiplier i q)))))

  -- the model's lower bound of column j is that of the form
  structural_lower : (j : ℕ) → j < w → (bounds m j).lower ≡ b.lower j
  structural_lower j l =
      sym ((bounded (formed m ls) (formed_proper m ls h)).lower j (omega (arith, l)) ∙ lower_structural m ls h j l)

  -- the model's upper bound of column j is that of the form
  structural_upper : (j : ℕ) → j < w → (bounds m j).upper ≡ b.upper j
  structural_upper j l =
      sym ((bounded (formed m ls) (formed_proper m ls h)).upper j (omega (arith, l)) ∙ upper_structural m ls h j l)

  -- the lower limit of row i is the form's lower bound of the row's logical column
  logical_lower : (i : ℕ) → i < height m → (limits m i).lower ≡ (form_bounds (formed m ls)).lower (width m + i)
  logical_lower i l =
      sym ((bounded (formed m ls) (formed_proper m ls h)).lower (w + i) (omega (arith, l)) ∙ lower_logical m ls h i l)

  -- the upper limit of row i is the form's upper bound of the row's logical column
  logical_upper : (i : ℕ) → i < height m → (limits m i).upper ≡ (form_bounds (formed m ls)).upper (width m + i)
  logical_upper i l =
      sym ((bounded (formed m ls) (formed_proper m ls h)).upper (w + i) (omega (arith, l)) ∙ upper_logical m ls h i l)

  module _ (c : ChecksOptimal m (point t) (multipliers t)) where
    -- where the point and multipliers show the optimum, each basic value of the tableau is within its bounds
    inside_at : (k : ℕ) → k < w + r + r → status_at t k ≡ Basic → IsInside (b.lower k) (b.upper k) (value_at t k)
    inside_at k l s =
        by_kind w r k
        (λ q. between (bounds m k) k (part (point t) k) (structural_lower k q) (structural_upper k q) (x_at k q)
        (c.feasible.columns k q))
        (λ i q e. subst (λ k. IsInside (b.lower k) (b.upper k) (value_at t k)) (sym e)
        (between (limits m i) (w + i) (activity m (point t) i) (logical_lower i q) (logical_upper i q) (row_value i q)
        (c.feasible.rows i q)))
        (λ i e. let z : AtLower ≡ Basic =
        sym (ap (λ s. get_or s (w + r + i) Basic) parts.status
        ∙ status_after (formed m ls) basis fits i (omega (arith, l, e))) ∙ ap (status_at t) (sym e) ∙ s in cc)
      where
        between : (l : Limits) (k : ℕ) (v : ℚ) → l.lower ≡ b.lower k → l.upper ≡ b.upper k → v ≡ value_at t k →
            IsBetween l v → IsInside (b.lower k) (b.upper k) (value_at t k)
        between l k v p q e i =
            record {
              lower = subst₂ (λ o v. IfSome o (λ k. k ≤ℚ v)) p e i.lower;
              upper = subst₂ (λ o v. IfSome o (λ k. v ≤ℚ k)) q e i.upper;
            }

    -- where the point and multipliers show the optimum, the reduced cost of each column that is not fixed suits its
    -- status
    suits_at : IsDualFeasible (w + r + r) b (table_of t)
    suits_at k l n =
        by_kind w r k
        (λ q. tight (bounds m k) k (reduced m (multipliers t) k) (part (point t) k) l (structural_lower k q)
        (structural_upper k q) (reduced_is k q) (x_at k q) n (c.columns k q))
        (λ i q e. subst (λ k. Suits (status_at t k) (reduced_at t k)) (sym e)
        (tight (limits m i) (w + i) (part (multipliers t) i) (activity m (point t) i) (omega (arith, q))
        (logical_lower i q) (logical_upper i q) (y_at i q) (row_value i q) (subst (λ k. ¬ (IsFixed b k)) e n)
        (c.rows i q)))
        (λ i e. absurd (n (let o = fixed_after (formed m ls) (formed_proper m ls h) i (omega (arith, l, e)) in
        subst (IsFixed b) (sym e) (0ℚ, o.0, o.1))))
      where
        tight : (l : Limits) (k : ℕ) (d v : ℚ) → k < w + r + r → l.lower ≡ b.lower k → l.upper ≡ b.upper k →
            d ≡ reduced_at t k → v ≡ value_at t k → ¬ (IsFixed b k) → IsTight l d v →
            Suits (status_at t k) (reduced_at t k)
        tight l k d v k_in p q e z n i =
            suits_if (status_at t k) (b.lower k) (b.upper k) (value_at t k) (reduced_at t k) (tableau.stands k k_in)
            (λ a. sym p ∙ i.above (subst (λ d. 0ℚ <ℚ d) (sym e) a) ∙ ap Some z)
            (λ a. sym q ∙ i.below (subst (λ d. d <ℚ 0ℚ) (sym e) a) ∙ ap Some z)
            (λ o. n (value_at t k, o.0, o.1))

  -- the tableau's point and multipliers show the optimum of the model exactly where the tableau is good
  pub checks_good : ChecksOptimal m (point t) (multipliers t) ↔
      IsGood (width m + height m + height m) (form_bounds (formed m ls)) (table_of t)
  checks_good = (λ c. record { inside = inside_at c; suits = suits_at c }, good_checks)
