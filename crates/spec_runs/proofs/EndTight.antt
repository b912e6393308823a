-- Where no column is eligible, a reduced cost is at the bound of its sign; and sums over the columns of a form.
use Rattle.std.proofs.Common.{◌≡◌, ℕ, ◌+◌, ◌<◌, List, Option, Some, false, IfSome}
use Rattle.std.proofs.Common.{refl, sym, ap, ap₂, ◌∙◌, subst, subst₂, arith, ⊎_elim}
use Rattle.spec_exact.specs.Fraction.{ℚ, ◌+ℚ◌, ◌-ℚ◌, ◌*ℚ◌, neg_ℚ, 0ℚ, 1ℚ, ◌≤ℚ◌, ◌<ℚ◌}
use Rattle.spec_exact.specs.Sums.{sum_below}
use Rattle.spec_exact.proofs.Field.{+ℚ_zero, *ℚ_comm, *ℚ_zero}
use Rattle.spec_exact.proofs.Order.{≤ℚ_antisym}
use Rattle.spec_exact.proofs.Ruleset.{ring, zero-+ℚ}
use Rattle.spec_exact.proofs.Strict.{<ℚ_irrefl}
use Rattle.spec_exact.proofs.Sums.{sum_below_none, sum_below_same, *ℚ-sum_below}
use Rattle.spec_model.specs.Model.{Model, Limits, width, height, bounds, limits, coefficient}
use Rattle.spec_model.specs.Truth.{IsBetween}
use Rattle.spec_check.specs.Checks.{IsTight}
use Rattle.spec_pivot.specs.declared.status.Status.{Status}
use Rattle.spec_pivot.specs.declared.status.Status.TheVariants.{Basic, AtLower, AtUpper, AtZero}
use Rattle.spec_pivot.specs.declared.status.Way.{Way}
use Rattle.spec_pivot.specs.declared.status.Way.TheVariants.{Up, Down}
use Rattle.spec_pivot.specs.Tableau.{delta}
use Rattle.spec_pivot.specs.Simplex.{Bounds, Table, IsFixed, Stands, CanMove, IsInside, IsWithin, IsEligible, IsTableau}
use Rattle.spec_pivot.proofs.Fixed.{fixed_or_not}
use Rattle.spec_pivot.proofs.Pivot.{sum_below-delta}
use Rattle.spec_pivot.proofs.Values.{zero_at_basic}
use Rattle.spec_pivot.proofs.Ray.{delta_sym}
use Rattle.spec_simplex.specs.Form.{Form, formed}
use Rattle.spec_simplex.specs.Begins.{form_rows}
use Rattle.spec_simplex.proofs.ColumnKinds.{sum_by_kind}
use Rattle.spec_simplex.proofs.Equations.{row_structural, row_logical}
use Rattle.spec_simplex.proofs.FormOfModel.{Limited, entry_is, lower_structural, upper_structural, lower_logical, upper_logical}
use Rattle.spec_simplex.proofs.FormOfModel.{HasBounds}

abbrev pub limits_at : Bounds → ℕ → Limits
limits_at b k = record { lower = b.lower k; upper = b.upper k }

module _ (b : Bounds) (t : Table) (k : ℕ) (stands : Stands (t.status k) (b.lower k) (b.upper k) (t.value k))
    (within : IsInside (b.lower k) (b.upper k) (t.value k))
    (basic : t.status k ≡ Basic → t.reduced k ≡ 0ℚ) (open_ : b.barred k ≡ false)
    (none : (way : Way) → ¬ (IsEligible b t way k)) where
  fixed_value : (f : IsFixed b k) → f.0 ≡ t.value k
  fixed_value f = ≤ℚ_antisym f.0 (t.value k)
      (subst (λ o. IfSome o (λ c. c ≤ℚ t.value k)) f.1 within.lower)
      (subst (λ o. IfSome o (λ c. t.value k ≤ℚ c)) f.2 within.upper)

  -- where nothing is eligible and the reduced cost is above 0, the value is the lower bound
  above : 0ℚ <ℚ t.reduced k → b.lower k ≡ Some (t.value k)
  above h =
      ⊎_elim
      (λ f. f.1 ∙ ap Some (fixed_value f))
      (λ n. go (t.status k) refl n)
      (fixed_or_not b k)
    where
      go : (s : Status) → t.status k ≡ s → ¬ (IsFixed b k) → b.lower k ≡ Some (t.value k)
      go Basic e n = absurd (<ℚ_irrefl 0ℚ (subst (λ a. 0ℚ <ℚ a) (basic e) h))
      go AtLower e n = subst (λ s. Stands s (b.lower k) (b.upper k) (t.value k)) e stands
      go AtUpper e n =
          absurd (none Down (record { may_enter = (open_, n); status = subst (CanMove Down) (sym e) tt; improves = h }))
      go AtZero e n =
          absurd (none Down (record { may_enter = (open_, n); status = subst (CanMove Down) (sym e) tt; improves = h }))

  -- where nothing is eligible and the reduced cost is below 0, the value is the upper bound
  below : t.reduced k <ℚ 0ℚ → b.upper k ≡ Some (t.value k)
  below h =
      ⊎_elim
      (λ f. f.2 ∙ ap Some (fixed_value f))
      (λ n. go (t.status k) refl n)
      (fixed_or_not b k)
    where
      go : (s : Status) → t.status k ≡ s → ¬ (IsFixed b k) → b.upper k ≡ Some (t.value k)
      go Basic e n = absurd (<ℚ_irrefl 0ℚ (subst (λ a. a <ℚ 0ℚ) (basic e) h))
      go AtUpper e n = subst (λ s. Stands s (b.lower k) (b.upper k) (t.value k)) e stands
      go AtLower e n =
          absurd (none Up (record { may_enter = (open_, n); status = subst (CanMove Up) (sym e) tt; improves = h }))
      go AtZero e n =
          absurd (none Up (record { may_enter = (open_, n); status = subst (CanMove Up) (sym e) tt; improves = h }))

  -- where nothing is eligible, the value of column k is tight at its bounds for its reduced cost
  tight : IsTight (limits_at b k) (t.reduced k) (t.value k)
  tight = record { above = above; below = below }

module _ (m : Model) (ls : List (Option ℚ × Option ℚ)) (h : Limited m ls) (signs : ℕ → ℚ) where
  abbrev f : Form
  f = formed m ls

  abbrev w : ℕ
  w = width m

  abbrev r : ℕ
  r = height m

  abbrev F : ℕ → ℕ → ℚ
  F = form_rows f signs

  module _ (b : Bounds) (bs : HasBounds f b) where
    -- what holds of the limits at structural column j holds of the model's bounds of column j
    pub bounds_structural : (P : Limits → Type 0) (j : ℕ) → j < w → P (limits_at b j) → P (bounds m j)
    bounds_structural P j l =
        subst₂ (λ x y. P (record { lower = x; upper = y }))
        (bs.lower j (omega (arith, l)) ∙ lower_structural m ls h j l)
        (bs.upper j (omega (arith, l)) ∙ upper_structural m ls h j l)

    -- what holds of the limits at the logical column of row i holds of the model's limits of row i
    pub bounds_logical : (P : Limits → Type 0) (i : ℕ) → i < r → P (limits_at b (w + i)) → P (limits m i)
    bounds_logical P i l =
        subst₂ (λ x y. P (record { lower = x; upper = y }))
        (bs.lower (w + i) (omega (arith, l)) ∙ lower_logical m ls h i l)
        (bs.upper (w + i) (omega (arith, l)) ∙ upper_logical m ls h i l)

    between_at : (t : Table) (k : ℕ) → IsInside (b.lower k) (b.upper k) (t.value k) →
        IsBetween (limits_at b k) (t.value k)
    between_at t k i = record { lower = i.lower; upper = i.upper }

    module _ (t : Table) (within : IsWithin (w + r + r) b t) where
      pub within_structural : (j : ℕ) → j < w → IsBetween (bounds m j) (t.value j)
      within_structural j l =
          bounds_structural (λ x. IsBetween x (t.value j)) j l (between_at t j (within j (omega (arith, l))))

      pub within_logical : (i : ℕ) → i < r → IsBetween (limits m i) (t.value (w + i))
      within_logical i l =
          bounds_logical (λ x. IsBetween x (t.value (w + i))) i l
          (between_at t (w + i) (within (w + i) (omega (arith, l))))

      module _ (cost : ℕ → ℚ) (g : IsTableau r (w + r + r) F cost b t)
          (none : (way : Way) (k : ℕ) → k < w + r + r → ¬ (IsEligible b t way k)) where
        tight_at : (k : ℕ) → k < w + r → IsTight (limits_at b k) (t.reduced k) (t.value k)
        tight_at k l =
            let q : k < w + r + r = omega (arith, l) in
            tight b t k (g.stands k q) (within k q)
            (zero_at_basic r (w + r + r) F cost b t g k q) (bs.entering k l) (λ way. none way k q)

        -- where no column is eligible, the value of structural column j is tight at its bounds for its reduced cost
        pub tight_structural : (j : ℕ) → j < w → IsTight (bounds m j) (t.reduced j) (t.value j)
        tight_structural j l =
            bounds_structural (λ x. IsTight x (t.reduced j) (t.value j)) j l (tight_at j (omega (arith, l)))

        -- where no column is eligible, the value of row i's logical column is tight at the row's limits for its reduced
        -- cost
        pub tight_logical : (i : ℕ) → i < r → IsTight (limits m i) (t.reduced (w + i)) (t.value (w + i))
        tight_logical i l =
            bounds_logical (λ x. IsTight x (t.reduced (w + i)) (t.value (w + i))) i l
            (tight_at (w + i) (omega (arith, l)))

  -- the multipliers are the weights of the reduced costs, negated
  module _ (cost d weights : ℕ → ℚ) (less : (k : ℕ) → d k ≡ cost k -ℚ sum_below r (λ i. weights i *ℚ F i k)) where
    -- where the logical column of row i has the cost 0, its reduced cost is minus the weight of row i
    pub weight_at : (i : ℕ) → i < r → cost (w + i) ≡ 0ℚ → d (w + i) ≡ neg_ℚ (weights i)
    weight_at i p e =
        less (w + i) ∙ ap₂ (λ a c. a -ℚ c) e
        (sum_below_same r _ (λ s. delta i s *ℚ weights s)
        (λ s q. ap (λ a. weights s *ℚ a) (row_logical f signs s i p ∙ delta_sym s i) ∙ *ℚ_comm (weights s) (delta i s))
        ∙ sum_below-delta r i weights p)
        ∙ zero-+ℚ _

    -- the reduced cost of structural column j is its cost less the sum, over the rows, of minus a row's weight times
    -- the column's coefficient there
    pub column_at : (j : ℕ) → j < w → d j ≡ cost j -ℚ sum_below r (λ i. neg_ℚ (weights i) *ℚ coefficient m i j)
    column_at j p =
        less j ∙ ap (λ s. cost j -ℚ s) (sum_below_same r _ _ (λ i q. ap (λ a. weights i *ℚ a)
        (row_structural f signs i j p ∙ ap neg_ℚ (entry_is m ls h i j)) ∙ swap_sign (weights i) (coefficient m i j)))
      where
        swap_sign : (w a : ℚ) → w *ℚ neg_ℚ a ≡ neg_ℚ w *ℚ a
        swap_sign w a = simp ring

  -- where the equations are solved and artificials are 0, the logical of a row is its sum
  pub logical_is_row : (z : ℕ → ℚ) → ((i : ℕ) → i < r → z (w + r + i) ≡ 0ℚ) → (i : ℕ) → i < r →
      sum_below (w + r + r) (λ k. F i k *ℚ z k) ≡ 0ℚ → sum_below w (λ j. coefficient m i j *ℚ z j) ≡ z (w + i)
  logical_is_row z none i p solves =
      from_sum (sum_below w (λ j. coefficient m i j *ℚ z j)) (z (w + i))
      (sym (sum_by_kind w r (λ k. F i k *ℚ z k)
      ∙ ap₂ ◌+ℚ◌
      (ap₂ ◌+ℚ◌
      (sum_below_same w _ (λ j. neg_ℚ 1ℚ *ℚ (coefficient m i j *ℚ z j))
      (λ j q. ap (λ a. a *ℚ z j) (row_structural f signs i j q ∙ ap neg_ℚ (entry_is m ls h i j))
      ∙ minus (coefficient m i j) (z j))
      ∙ sym (*ℚ-sum_below (neg_ℚ 1ℚ) w _))
      (sum_below_same r _ (λ s. delta i s *ℚ z (w + s)) (λ s q. ap (λ a. a *ℚ z (w + s)) (row_logical f signs i s q))
      ∙ sum_below-delta r i (λ s. z (w + s)) p))
      (sum_below_none r _ (λ s q. ap (λ a. F i (w + r + s) *ℚ a) (none s q) ∙ *ℚ_zero _)))
      ∙ solves)
    where
      minus : (a v : ℚ) → neg_ℚ a *ℚ v ≡ neg_ℚ 1ℚ *ℚ (a *ℚ v)
      minus a v = simp ring

      from_sum : (a v : ℚ) → (neg_ℚ 1ℚ *ℚ a +ℚ v) +ℚ 0ℚ ≡ 0ℚ → a ≡ v
      from_sum a v e = sym (+ℚ_zero a) ∙ ap (λ z. a +ℚ z) (sym e) ∙ close a v
        where
          close : (a v : ℚ) → a +ℚ ((neg_ℚ 1ℚ *ℚ a +ℚ v) +ℚ 0ℚ) ≡ v
          close a v = simp ring
