-- An unbounded end of phase two shows that points get better without limit.
use Rattle.std.proofs.Common.{◌≡◌, ℕ, ◌+◌, ◌<◌, List, length, Option, Some, sym, ap, ap₂, ◌∙◌, subst, subst₂, arith}
use Rattle.spec_exact.specs.Fraction.{ℚ, ◌+ℚ◌, ◌*ℚ◌, 0ℚ, ◌<ℚ◌}
use Rattle.spec_exact.specs.Sums.{sum_below}
use Rattle.spec_exact.proofs.Field.{+ℚ_zero}
use Rattle.spec_exact.proofs.Order.{≤ℚ_antisym}
use Rattle.spec_exact.proofs.Ruleset.{zero-*ℚ}
use Rattle.spec_exact.proofs.Sums.{sum_below_none, sum_below_same}
use Rattle.spec_model.specs.Model.{Model, width, height, bounds, limits, cost, cost_of, coefficient, part, activity}
use Rattle.spec_check.specs.Checks.{signed, Allows, ChecksUnbounded}
use Rattle.spec_check.proofs.Sound.{signed-sum_below}
use Rattle.spec_pivot.specs.declared.status.Way.{Way}
use Rattle.spec_pivot.specs.Simplex.{Bounds, Table, IsWithin, IsTableau, ray}
use Rattle.spec_pivot.specs.Ratio.{GoesOn}
use Rattle.spec_pivot.proofs.SameEquations.{j_outside}
use Rattle.spec_pivot.proofs.Ray.{form_ray}
use Rattle.spec_simplex.specs.Form.{formed}
use Rattle.spec_simplex.specs.Start.{cost_at}
use Rattle.spec_simplex.specs.Begins.{form_rows}
use Rattle.spec_simplex.proofs.ColumnKinds.{sum_by_kind}
use Rattle.spec_simplex.proofs.FormOfModel.{Limited, cost_other}
use Rattle.spec_runs.proofs.FormCosts.{cost_structural}
use Rattle.spec_simplex.proofs.FormOfModel.{HasBounds}
use Rattle.spec_runs.proofs.EndTight.{bounds_structural, bounds_logical, limits_at, logical_is_row}
use Rattle.spec_runs.proofs.EndOptimal.{point_feasible}
use Rattle.spec_simplex.proofs.Rays.{allowed, falls}

-- a change that a lower and an upper bound of 0 allow without end is 0
zero_allowed : (l u : Option ℚ) (r : ℚ) → l ≡ Some 0ℚ → u ≡ Some 0ℚ → Allows (record { lower = l; upper = u }) r →
    r ≡ 0ℚ
zero_allowed l u r p q a =
    let z : Allows (record { lower = Some 0ℚ; upper = Some 0ℚ }) r =
    subst₂ (λ l u. Allows (record { lower = l; upper = u }) r) p q a in
    ≤ℚ_antisym r 0ℚ z.upper z.lower

module _ (m : Model) (ls : List (Option ℚ × Option ℚ)) (h : Limited m ls)
    (signs : ℕ → ℚ) (b : Bounds) (bs : HasBounds (formed m ls) b)
    (fixed : (i : ℕ) → i < height m →
    (b.lower (width m + height m + i) ≡ Some 0ℚ) × (b.upper (width m + height m + i) ≡ Some 0ℚ))
    (t : Table) (g : IsTableau (height m) (width m + height m + height m) (form_rows (formed m ls) signs)
    (cost_at (formed m ls).cost) b t) (within : IsWithin (width m + height m + height m) b t)
    (way : Way) (j : ℕ) (e : GoesOn (height m) (width m + height m + height m) b t way j)
    (x y : List ℚ) (x_length : length x ≡ width m) (x_at : (j : ℕ) → j < width m → part x j ≡ t.value j)
    (y_at : (k : ℕ) → k < width m → part y k ≡ ray (height m) t way j k) where
  abbrev n : ℕ
  n = width m + height m + height m

  abbrev F : ℕ → ℕ → ℚ
  F = form_rows (formed m ls) signs

  abbrev costs : ℕ → ℚ
  costs = cost_at (formed m ls).cost

  abbrev z : ℕ → ℚ
  z = ray (height m) t way j

  -- the bounds of each column allow its move along the ray without end
  allowed_at : (k : ℕ) → k < n → Allows (limits_at b k) (z k)
  allowed_at k p =
      let a = allowed (height m) n F costs b t g way j e k p in record { lower = a.lower; upper = a.upper }

  -- along the ray of phase two no artificial column moves
  still : (i : ℕ) → i < height m → z (width m + height m + i) ≡ 0ℚ
  still i p =
      zero_allowed (b.lower (width m + height m + i)) (b.upper (width m + height m + i)) (z (width m + height m + i))
      (fixed i p).0 (fixed i p).1 (allowed_at (width m + height m + i) (omega (arith, p)))

  -- the activity of row i along the ray is the move of its logical column
  row_ray : (i : ℕ) → i < height m → activity m y i ≡ z (width m + i)
  row_ray i p =
      sum_below_same (width m) _ (λ k. coefficient m i k *ℚ z k) (λ k q. ap (λ a. coefficient m i k *ℚ a) (y_at k q))
      ∙ logical_is_row m ls h signs z still i p (form_ray (height m) t g.units way j
      (j_outside (height m) n F costs b t g way j e.enters) n e.enters.in_range g.in_range F g.back i p)

  cost_is : sum_below n (λ k. costs k *ℚ z k) ≡ signed m.sense (cost_of m y)
  cost_is =
      sum_by_kind (width m) (height m) (λ k. costs k *ℚ z k)
      ∙ ap₂ ◌+ℚ◌
      (ap₂ ◌+ℚ◌
      (sum_below_same (width m) _ (λ k. signed m.sense (cost m k) *ℚ part y k)
      (λ k p. ap₂ ◌*ℚ◌ (cost_structural m ls h k p) (sym (y_at k p)))
      ∙ signed-sum_below m.sense (width m) (cost m) (part y))
      (sum_below_none (height m) _ (λ i p. ap (λ a. a *ℚ z (width m + i)) (cost_other m ls h i) ∙ zero-*ℚ _)))
      (sum_below_none (height m) _ (λ i p. ap (λ a. a *ℚ z (width m + height m + i)) (artificial_cost i) ∙ zero-*ℚ _))
      ∙ ap (λ a. a +ℚ 0ℚ) (+ℚ_zero _) ∙ +ℚ_zero _
    where
      artificial_cost : (i : ℕ) → costs (width m + height m + i) ≡ 0ℚ
      artificial_cost i =
          (let e : width m + height m + i ≡ width m + (height m + i) = omega arith in ap (cost_at (formed m ls).cost) e)
          ∙ cost_other m ls h (height m + i)

  pub unbounded_checks : ChecksUnbounded m x y
  unbounded_checks = record {
    feasible = point_feasible m ls h signs b bs fixed t g within x x_length x_at;
    columns =
        λ k p. subst (Allows (bounds m k)) (sym (y_at k p))
        (bounds_structural m ls h signs b bs (λ l. Allows l (z k)) k p (allowed_at k (omega (arith, p))));
    rows =
        λ i p. subst (Allows (limits m i)) (sym (row_ray i p)) (bounds_logical m ls h signs b bs
        (λ l. Allows l (z (width m + i))) i p (allowed_at (width m + i) (omega (arith, p))));
    better = subst (λ a. a <ℚ 0ℚ) cost_is (falls (height m) n F costs b t g way j e);
  }
