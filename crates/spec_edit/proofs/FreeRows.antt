-- A model without one of its free rows has the same truths.
--
-- `skipping_below`: once row i is gone, the rows before it have their old numbers.
-- `skipping_from`: once row i is gone, the row at a, from i on, is the one that was at a + 1.
use Rattle.std.proofs.Common.{◌≡◌, ◌↔◌, ℕ, ◌+◌, ◌-◌, ◌<◌, ◌≤◌, List, Option, true, refl, sym, ap, ◌∙◌, subst, arith, ⊎_elim}
use Rattle.std.proofs.lemmas.Bool.{cases_lt}
use Rattle.std.proofs.lemmas.List.{length-map}
use borrow.Author.Tests.{lt-ltb, le-ltb}
use Rattle.spec_exact.specs.Fraction.{ℚ, ◌+ℚ◌, ◌*ℚ◌, whole}
use Rattle.spec_exact.specs.Sums.{sum_below}
use Rattle.spec_exact.proofs.Sums.{sum_below_same}
use Rattle.spec_model.specs.declared.parts.Kind.{Kind}
use Rattle.spec_model.specs.declared.parts.Kind.TheVariants.{L, G, E, N}
use Rattle.spec_model.specs.Model.{Model, ExactColumn, is_free, limits_by, limits_of, bounds_of, width, height}
use Rattle.spec_model.specs.Model.{row, bounds, limits, cost, coefficient, part, activity, value_of}
use Rattle.spec_model.specs.Truth.{IsBetween, IsFeasible, IsBetter, IsOptimal, IsInfeasible, IsUnbounded}
use Rattle.spec_edit.specs.Changes.{without_row}
use Rattle.spec_edit.specs.Meaning.{skipping}
use Rattle.spec_edit.proofs.Keeping.{lowered}
use Rattle.spec_edit.proofs.Meanings.{column-lowered, without_row-means}

pub skipping_below : (i a : ℕ) → a < i → skipping i a ≡ a
skipping_below i a h = rw (lt-ltb a i h) refl

pub skipping_from : (i a : ℕ) → i ≤ a → skipping i a ≡ a + 1
skipping_from i a h = rw (le-ltb a i h) refl

-- each number is between the limits of a free row
free_between : (kind : Kind) (b : ℚ) (range : Option ℚ) (v : ℚ) → is_free kind ≡ true → IsBetween (limits_by kind b range) v
free_between L b range v e = absurd (cc)
free_between G b range v e = absurd (cc)
free_between E b range v e = absurd (cc)
free_between N b range v e = record { lower = tt; upper = tt }

module _ (m : Model) (i : ℕ) (l : i < height m) (free : is_free (row m i).kind ≡ true) where
  abbrev less : Model
  less = without_row m i

  pub width_is : width less ≡ width m
  width_is = length-map m.columns (lowered i)

  height_is : height m ≡ height less + 1
  height_is = (without_row-means m i l).height

  bounds_are : (j : ℕ) → bounds less j ≡ bounds m j
  bounds_are j = ap bounds_of (column-lowered m i j)

  cost_is : (j : ℕ) → cost less j ≡ cost m j
  cost_is j = ap (λ (c : ExactColumn). c.cost) (column-lowered m i j)

  -- once row i is removed, row a has the sum at z of the row that had its number before
  activity_is : (z : List ℚ) (a : ℕ) → activity less z a ≡ activity m z (skipping i a)
  activity_is z a =
      ap (λ n. sum_below n (λ j. coefficient less a j *ℚ part z j)) width_is
      ∙ sum_below_same (width m) _ _ (λ j p. ap (λ v. v *ℚ part z j) ((without_row-means m i l).coefficients a j))

  value_is : (z : List ℚ) → value_of less z ≡ value_of m z
  value_is z =
      ap (λ s. s +ℚ m.offset)
      (ap (λ n. sum_below n (λ j. cost less j *ℚ part z j)) width_is
      ∙ sum_below_same (width m) _ _ (λ j p. ap (λ v. v *ℚ part z j) (cost_is j)))

  limits_are : (a : ℕ) → limits less a ≡ limits m (skipping i a)
  limits_are a = ap limits_of ((without_row-means m i l).rows a)

  -- where row a is within its limits once row i is removed, so is in the model row k, which is the same row
  staying : (z : List ℚ) (a k : ℕ) → skipping i a ≡ k → IsBetween (limits less a) (activity less z a) →
      IsBetween (limits m k) (activity m z k)
  staying z a k e h =
      subst (λ k. IsBetween (limits m k) (activity m z k)) e
      (subst (λ v. IsBetween (limits m (skipping i a)) v) (activity_is z a)
      (subst (λ l. IsBetween l (activity less z a)) (limits_are a) h))

  inside : (a : ℕ) → a < height less → skipping i a < height m
  inside a p =
      ⊎_elim
      (λ q. subst (λ k. k < height m) (sym (skipping_below i a q)) (omega (arith, height_is)))
      (λ q. subst (λ k. k < height m) (sym (skipping_from i a q)) (omega (arith, height_is)))
      (cases_lt a i)

  pub feasible_less : (z : List ℚ) → IsFeasible m z → IsFeasible less z
  feasible_less z h = record {
    one_each = h.one_each ∙ sym width_is;
    columns =
        λ j p. subst (λ l. IsBetween l (part z j)) (sym (bounds_are j)) (h.columns j (omega (arith, width_is, p)));
    rows =
        λ a p. subst (λ l. IsBetween l (activity less z a)) (sym (limits_are a))
        (subst (λ v. IsBetween (limits m (skipping i a)) v) (sym (activity_is z a)) (h.rows (skipping i a) (inside a p)));
  }

  pub feasible_more : (z : List ℚ) → IsFeasible less z → IsFeasible m z
  feasible_more z h = record {
    one_each = h.one_each ∙ width_is;
    columns =
        λ j p. subst (λ l. IsBetween l (part z j)) (bounds_are j) (h.columns j (omega (arith, width_is, p)));
    rows = λ k p. ⊎_elim (below k p) (from k p) (cases_lt k i);
  }
    where
      below : (k : ℕ) → k < height m → k < i → IsBetween (limits m k) (activity m z k)
      below k p q = staying z k k (skipping_below i k q) (h.rows k (omega (arith, height_is, l)))

      above : (k : ℕ) → k < height m → i < k → IsBetween (limits m k) (activity m z k)
      above k p q =
          staying z (k - 1) k (skipping_from i (k - 1) (omega arith) ∙ omega arith)
          (h.rows (k - 1) (omega (arith, height_is)))

      from : (k : ℕ) → k < height m → i ≤ k → IsBetween (limits m k) (activity m z k)
      from k p q =
          ⊎_elim (above k p)
          (λ r. let e : k ≡ i = omega arith in
          subst (λ k. IsBetween (limits m k) (activity m z k)) (sym e)
          (free_between (row m i).kind (row m i).rhs (row m i).range (activity m z i) free))
          (cases_lt i k)

  pub points_same : (z : List ℚ) → (IsFeasible m z ↔ IsFeasible less z) × (value_of less z ≡ value_of m z)
  points_same z = ((feasible_less z, feasible_more z), value_is z)

  pub optimal_same : (v : ℚ) → IsOptimal m v ↔ IsOptimal less v
  optimal_same v = (
    λ h. record {
      point = (h.point.0, feasible_less h.point.0 h.point.1, value_is h.point.0 ∙ h.point.2);
      best = λ z f b. h.best z (feasible_more z f) (subst (λ w. IsBetter m.sense w v) (value_is z) b);
    },
    λ h. record {
      point = (h.point.0, feasible_more h.point.0 h.point.1, sym (value_is h.point.0) ∙ h.point.2);
      best = λ z f b. h.best z (feasible_less z f) (subst (λ w. IsBetter m.sense w v) (sym (value_is z)) b);
    },
  )

  pub infeasible_same : IsInfeasible m ↔ IsInfeasible less
  infeasible_same = (λ h z f. h z (feasible_more z f), λ h z f. h z (feasible_less z f))

  pub unbounded_same : IsUnbounded m ↔ IsUnbounded less
  unbounded_same = (
    λ h k. let z = h k in
        (z.0, feasible_less z.0 z.1, subst (λ w. IsBetter m.sense w (whole k)) (sym (value_is z.0)) z.2),
    λ h k. let z = h k in
        (z.0, feasible_more z.0 z.1, subst (λ w. IsBetter m.sense w (whole k)) (value_is z.0) z.2),
  )
