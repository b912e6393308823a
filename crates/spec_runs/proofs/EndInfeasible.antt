-- Where phase one ends and an artificial is not 0, no point satisfies all rows.
use Rattle.std.proofs.Common.{◌≡◌, ℕ, ◌+◌, ◌<◌, List, length}
use Rattle.std.proofs.Common.{Option, Some}
use Rattle.std.proofs.Common.{sym, ap, ap₂, ◌∙◌, subst, subst₂, arith}
use Rattle.spec_exact.specs.Fraction.{ℚ, ◌+ℚ◌, ◌-ℚ◌, ◌*ℚ◌, neg_ℚ, 0ℚ, ◌<ℚ◌}
use Rattle.spec_exact.specs.Sums.{sum_below}
use Rattle.spec_exact.proofs.Ruleset.{ring, zero-+ℚ, neg-zero}
use Rattle.spec_exact.proofs.Strict.{+ℚ_strict, neg_strict}
use Rattle.spec_exact.proofs.Sums.{sum_below_same, neg-sum_below}
use Rattle.spec_model.specs.Model.{bounds, Model, Limits, width, height, limits, coefficient, part}
use Rattle.spec_check.specs.Checks.{priced, IsTight}
use Rattle.spec_check.specs.Checks.{turned_limits, rows_ask, columns_give, ChecksInfeasible}
use Rattle.spec_check.proofs.Sound.{tight_has, asked_weighs}
use Rattle.spec_pivot.specs.declared.status.Way.{Way}
use Rattle.spec_pivot.specs.Simplex.{Bounds, Table, IsWithin, IsEligible, IsTableau}
use Rattle.spec_simplex.specs.declared.ends.RowStart.{RowStart}
use Rattle.spec_simplex.specs.Form.{formed}
use Rattle.spec_simplex.specs.Start.{start_at, cost_at, first_costs, artificial_upper}
use Rattle.spec_simplex.specs.Begins.{form_rows, signs_of}
use Rattle.spec_simplex.proofs.FormOfModel.{Limited}
use Rattle.spec_simplex.proofs.FormOfModel.{HasBounds}
use Rattle.spec_runs.proofs.EndTight.{tight_structural, tight_logical, weight_at, column_at}
use Rattle.spec_simplex.proofs.FirstPhase.{cost_before, balance_positive}

-- ---- multipliers and the limits at which values stand

-- a value that is tight at limits for the multiplier d is tight at `turned_limits` of them for p, where d is -p
tight_turned : (l : Limits) (d p v : ℚ) → d ≡ neg_ℚ p → IsTight l d v → IsTight (turned_limits l) p v
tight_turned l d p v e t = record {
  above = λ h. t.below (subst₂ ◌<ℚ◌ (sym e) neg-zero (neg_strict 0ℚ p h));
  below = λ h. t.above (subst₂ ◌<ℚ◌ neg-zero (sym e) (neg_strict p 0ℚ h));
}

-- numbers for the columns and the rows that are at the limits of values, with sums above 0 together
module _ (m : Model) (y : List ℚ) (d v : ℕ → ℚ) (y_at : (i : ℕ) → i < height m → part y i ≡ d (width m + i))
    (priced_at : (j : ℕ) → j < width m → d j ≡ neg_ℚ (priced m y j))
    (rows : (i : ℕ) → i < height m → IsTight (limits m i) (d (width m + i)) (v (width m + i)))
    (columns : (j : ℕ) → j < width m → IsTight (bounds m j) (d j) (v j)) where
  abbrev of_columns : ℚ
  of_columns = sum_below (width m) (λ j. d j *ℚ v j)

  abbrev of_rows : ℚ
  of_rows = sum_below (height m) (λ i. d (width m + i) *ℚ v (width m + i))

  -- the value of each row is tight at its limits for its multiplier
  row_tight : (i : ℕ) → i < height m → IsTight (limits m i) (part y i) (v (width m + i))
  row_tight i p = subst (λ a. IsTight (limits m i) a (v (width m + i))) (sym (y_at i p)) (rows i p)

  column_tight : (j : ℕ) → j < width m → IsTight (turned_limits (bounds m j)) (priced m y j) (v j)
  column_tight j p = tight_turned (bounds m j) (d j) (priced m y j) (v j) (priced_at j p) (columns j p)

  -- what the rows ask for is the sum of the multipliers times the rows' values
  asks_is : rows_ask m y ≡ of_rows
  asks_is =
      sum_below_same (height m) _ _ (λ i p. asked_weighs (limits m i) (part y i) (v (width m + i)) (row_tight i p)
      ∙ ap (λ a. a *ℚ v (width m + i)) (y_at i p))

  -- what the columns give is minus the sum of the numbers times the columns' values
  gives_is : columns_give m y ≡ neg_ℚ of_columns
  gives_is =
      sum_below_same (width m) _ (λ j. neg_ℚ (d j *ℚ v j))
      (λ j p. asked_weighs (turned_limits (bounds m j)) (priced m y j) (v j) (column_tight j p)
      ∙ turn (priced m y j) (d j) (v j) (priced_at j p))
      ∙ sym (neg-sum_below (width m) (λ j. d j *ℚ v j))
    where
      turn : (p d v : ℚ) → d ≡ neg_ℚ p → p *ℚ v ≡ neg_ℚ (d *ℚ v)
      turn p d v e = close p v ∙ ap (λ a. neg_ℚ (a *ℚ v)) (sym e)
        where
          close : (p v : ℚ) → p *ℚ v ≡ neg_ℚ (neg_ℚ p *ℚ v)
          close p v = simp ring

  apart : (a c : ℚ) → 0ℚ <ℚ (a +ℚ c) → neg_ℚ a <ℚ c
  apart a c p = subst₂ ◌<ℚ◌ (zero-+ℚ (neg_ℚ a)) (close a c) (+ℚ_strict 0ℚ (a +ℚ c) (neg_ℚ a) p)
    where
      close : (a c : ℚ) → (a +ℚ c) +ℚ neg_ℚ a ≡ c
      close a c = simp ring

  -- where multipliers are tight at values of the rows and columns, and times these sum up to more than 0, they show
  -- that the model is infeasible
  pub checks_by_values : 0ℚ <ℚ (sum_below (width m) (λ j. d j *ℚ v j)
      +ℚ sum_below (height m) (λ i. d (width m + i) *ℚ v (width m + i))) → ChecksInfeasible m y
  checks_by_values above = record {
    rows = λ i p. tight_has (limits m i) (part y i) (v (width m + i)) (row_tight i p);
    columns = λ j p. tight_has (turned_limits (bounds m j)) (priced m y j) (v j) (column_tight j p);
    less = subst₂ ◌<ℚ◌ (sym gives_is) (sym asks_is) (apart of_columns of_rows above);
  }

module _ (m : Model) (ls : List (Option ℚ × Option ℚ)) (h : Limited m ls) (starts : List (RowStart ℚ))
    (all : length starts ≡ height m) (b : Bounds) (bs : HasBounds (formed m ls) b)
    (artificial : (i : ℕ) → i < height m → (b.lower (width m + height m + i) ≡ Some 0ℚ)
    × (b.upper (width m + height m + i) ≡ artificial_upper (start_at starts i)))
    (t : Table) (g : IsTableau (height m) (width m + height m + height m)
    (form_rows (formed m ls) (signs_of starts)) (cost_at (first_costs (formed m ls) starts)) b t) where
  abbrev w : ℕ
  w = width m

  abbrev r : ℕ
  r = height m

  abbrev n : ℕ
  n = width m + height m + height m

  abbrev F : ℕ → ℕ → ℚ
  F = form_rows (formed m ls) (signs_of starts)

  abbrev costs : ℕ → ℚ
  costs = cost_at (first_costs (formed m ls) starts)

  module _ (within : IsWithin (width m + height m + height m) b t)
      (none : (way : Way) (k : ℕ) → k < width m + height m + height m → ¬ (IsEligible b t way k))
      (y : List ℚ) (y_at : (i : ℕ) → i < height m → part y i ≡ t.reduced (width m + i)) (r0 : ℕ)
      (r0_in : r0 < height m) (not_zero : ¬ (t.value (width m + height m + r0) ≡ 0ℚ)) where
    abbrev d : ℕ → ℚ
    d = t.reduced

    abbrev v : ℕ → ℚ
    v = t.value

    multiplier : (i : ℕ) → i < r → part y i ≡ neg_ℚ (g.costs.weights i)
    multiplier i p =
        y_at i p
        ∙ weight_at m ls h (signs_of starts) costs d g.costs.weights g.costs.less i p (cost_before
        (formed m ls) starts (w + i) (omega (arith, p)))

    priced_at : (j : ℕ) → j < w → d j ≡ neg_ℚ (priced m y j)
    priced_at j p =
        column_at m ls h (signs_of starts) costs d g.costs.weights g.costs.less j p
        ∙ ap₂ (λ a c. a -ℚ c) (cost_before (formed m ls) starts j (omega (arith, p))) (sum_below_same r _
        (λ i. part y i *ℚ coefficient m i j) (λ i q. ap (λ a. a *ℚ coefficient m i j) (sym (multiplier i q))))
        ∙ zero-+ℚ _

    pub infeasible_checks : ChecksInfeasible m y
    infeasible_checks =
        checks_by_values m y d v y_at priced_at
        (tight_logical m ls h (signs_of starts) b bs t within costs g none)
        (tight_structural m ls h (signs_of starts) b bs t within costs g none)
        (balance_positive (formed m ls) starts all b artificial t g within r0 r0_in not_zero)
