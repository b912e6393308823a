-- An optimal end of phase two shows that its point is optimal.
use Rattle.std.proofs.Common.{◌≡◌, ℕ, ◌+◌, ◌<◌, List, length, Option, Some}
use Rattle.std.proofs.Common.{IfSome, sym, ap, ap₂, ◌∙◌, subst, subst₂, arith}
use Rattle.spec_exact.specs.Fraction.{ℚ, ◌-ℚ◌, ◌*ℚ◌, neg_ℚ, 0ℚ, ◌≤ℚ◌}
use Rattle.spec_exact.proofs.Order.{≤ℚ_antisym}
use Rattle.spec_exact.proofs.Sums.{sum_below_same}
use Rattle.spec_model.specs.Model.{Model, width, height, bounds, limits, coefficient, part, activity}
use Rattle.spec_model.specs.Truth.{IsBetween, IsFeasible}
use Rattle.spec_check.specs.Checks.{reduced, IsTight, ChecksOptimal}
use Rattle.spec_pivot.specs.declared.status.Way.{Way}
use Rattle.spec_pivot.specs.Simplex.{Bounds, Table, IsInside, IsWithin, IsEligible, IsTableau}
use Rattle.spec_simplex.specs.Form.{formed}
use Rattle.spec_simplex.specs.Start.{cost_at}
use Rattle.spec_simplex.specs.Begins.{form_rows}
use Rattle.spec_simplex.proofs.FormOfModel.{Limited, cost_other}
use Rattle.spec_runs.proofs.FormCosts.{cost_structural}
use Rattle.spec_simplex.proofs.FormOfModel.{HasBounds}
use Rattle.spec_runs.proofs.EndTight.{within_structural, within_logical, tight_structural}
use Rattle.spec_runs.proofs.EndTight.{tight_logical, weight_at, column_at, logical_is_row}

-- a value within a lower and an upper bound that are both 0 is 0
pub zero_inside : (l u : Option ℚ) (v : ℚ) → l ≡ Some 0ℚ → u ≡ Some 0ℚ → IsInside l u v → v ≡ 0ℚ
zero_inside l u v p q i =
    ≤ℚ_antisym v 0ℚ (subst (λ o. IfSome o (λ k. v ≤ℚ k)) q i.upper) (subst (λ o. IfSome o (λ k. k ≤ℚ v)) p i.lower)

module _ (m : Model) (ls : List (Option ℚ × Option ℚ)) (h : Limited m ls)
    (signs : ℕ → ℚ) (b : Bounds) (bs : HasBounds (formed m ls) b)
    (fixed : (i : ℕ) → i < height m →
    (b.lower (width m + height m + i) ≡ Some 0ℚ) × (b.upper (width m + height m + i) ≡ Some 0ℚ))
    (t : Table) (g : IsTableau (height m) (width m + height m + height m) (form_rows (formed m ls) signs)
    (cost_at (formed m ls).cost) b t) (within : IsWithin (width m + height m + height m) b t) where
  -- in phase two the value of each artificial column is 0
  pub artificial_zero : (i : ℕ) → i < height m → t.value (width m + height m + i) ≡ 0ℚ
  artificial_zero i l =
      zero_inside (b.lower (width m + height m + i))
      (b.upper (width m + height m + i)) (t.value (width m + height m + i))
      (fixed i l).0 (fixed i l).1 (within (width m + height m + i) (omega (arith, l)))

  module _ (x : List ℚ) (x_length : length x ≡ width m) (x_at : (j : ℕ) → j < width m → part x j ≡ t.value j) where
    -- the activity of row i at the point is the value of its logical column
    row_value : (i : ℕ) → i < height m → activity m x i ≡ t.value (width m + i)
    row_value i p =
        sum_below_same (width m) _ (λ j. coefficient m i j *ℚ t.value j)
        (λ j q. ap (λ a. coefficient m i j *ℚ a) (x_at j q))
        ∙ logical_is_row m ls h signs t.value artificial_zero i p (g.solves i p)

    pub point_feasible : IsFeasible m x
    point_feasible = record {
      one_each = x_length;
      columns =
          λ j p. subst (IsBetween (bounds m j)) (sym (x_at j p)) (within_structural m ls h signs b bs t within j p);
      rows =
          λ i p. subst (IsBetween (limits m i)) (sym (row_value i p)) (within_logical m ls h signs b bs t within i p);
    }

    module _ (y : List ℚ) (y_at : (i : ℕ) → i < height m → part y i ≡ t.reduced (width m + i))
        (none : (way : Way) (k : ℕ) → k < width m + height m + height m → ¬ (IsEligible b t way k)) where
      costs : ℕ → ℚ
      costs = cost_at (formed m ls).cost

      multiplier : (i : ℕ) → i < height m → part y i ≡ neg_ℚ (g.costs.weights i)
      multiplier i p =
          y_at i p ∙ weight_at m ls h signs
          (cost_at (formed m ls).cost) t.reduced g.costs.weights g.costs.less i p (cost_other m ls h i)

      -- the table's reduced cost of structural column j is the one by the multipliers
      reduced_at : (j : ℕ) → j < width m → t.reduced j ≡ reduced m y j
      reduced_at j p =
          column_at m ls h signs (cost_at (formed m ls).cost) t.reduced g.costs.weights g.costs.less j p
          ∙ ap₂ (λ a c. a -ℚ c) (cost_structural m ls h j p)
          (sum_below_same (height m) _ _ (λ i q. ap (λ a. a *ℚ coefficient m i j) (sym (multiplier i q))))

      pub optimal_checks : ChecksOptimal m x y
      optimal_checks = record {
        feasible = point_feasible;
        columns =
            λ j p. subst₂ (IsTight (bounds m j)) (reduced_at j p) (sym (x_at j p))
            (tight_structural m ls h signs b bs t within (cost_at (formed m ls).cost) g none j p);
        rows =
            λ i p. subst₂ (IsTight (limits m i)) (sym (y_at i p)) (sym (row_value i p))
            (tight_logical m ls h signs b bs t within (cost_at (formed m ls).cost) g none i p);
      }
