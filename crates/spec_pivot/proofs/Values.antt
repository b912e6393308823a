-- The statuses fix the values; the cost along a step.
--
-- `combined`: values that solve rows solve each combination of those rows.
-- `by_basic`: what follows for a basic status, and for any other, holds.
-- `same_stand`: a nonbasic status and the bounds fix the value.
use Rattle.std.proofs.Common.{◌≡◌, ℕ, ◌<◌, refl, sym, ap, ap₂, ◌∙◌, subst, subst₂, Option, Some}
use Rattle.spec_exact.specs.Fraction.{ℚ, ◌+ℚ◌, ◌-ℚ◌, ◌*ℚ◌, neg_ℚ, 0ℚ, 1ℚ, ◌<ℚ◌}
use Rattle.spec_exact.specs.Sums.{sum_below}
use Rattle.spec_exact.proofs.Field.{+ℚ_neg, *ℚ_assoc, *ℚ_one, *ℚ_zero}
use Rattle.spec_exact.proofs.Ruleset.{ring, zero-*ℚ, one-*ℚ, zero-+ℚ, neg-zero}
use Rattle.spec_exact.proofs.Strict.{neg_strict}
use Rattle.spec_exact.proofs.Sums.{sum_below-sub, sum_below_none, sum_below_same}
use Rattle.spec_exact.proofs.Sums.{*ℚ-sum_below, sum_below_swap, sum_below-*ℚ}
use Rattle.spec_pivot.specs.Tableau.{Matrix, Spans, delta}
use Rattle.spec_pivot.specs.declared.status.Status.{Status}
use Rattle.spec_pivot.specs.declared.status.Status.TheVariants.{Basic, AtLower, AtUpper, AtZero}
use Rattle.spec_pivot.specs.declared.status.Way.{Way}
use Rattle.spec_pivot.specs.declared.status.Way.TheVariants.{Up, Down}
use Rattle.spec_pivot.specs.Simplex.{sign, Bounds, Improves, Stands, Table, ray, IsTableau, moved, Enters, SameStatuses}
use Rattle.spec_pivot.proofs.Pivot.{by_eq, delta_same, delta_other, sum_below-delta}
use Rattle.spec_pivot.proofs.BasicPositions as rows
use Rattle.spec_pivot.proofs.Ray.{ray_at, ray_still, cost_ray}
use Rattle.spec_pivot.proofs.SameEquations.{outside, j_outside, cost_moved}

-- what solves the rows solves their combinations
pub combined : (m n : ℕ) (s t : Matrix) → Spans m s t → (x : ℕ → ℚ) →
    ((i : ℕ) → i < m → sum_below n (λ k. t i k *ℚ x k) ≡ 0ℚ) → (i : ℕ) → i < m
    → sum_below n (λ k. s i k *ℚ x k) ≡ 0ℚ
combined m n s t sp x e i h =
    sum_below_same n _ (λ k. sum_below m (λ r. sp.0 i r *ℚ (t r k *ℚ x k)))
    (λ k _. ap (λ a. a *ℚ x k) (sp.1 i k h) ∙ sum_below-*ℚ m _ (x k)
    ∙ sum_below_same m _ _ (λ r _. *ℚ_assoc (sp.0 i r) (t r k) (x k)))
    ∙ sym (sum_below_swap m n (λ r k. sp.0 i r *ℚ (t r k *ℚ x k)))
    ∙ sum_below_none m _
    (λ r p. sym (*ℚ-sum_below (sp.0 i r) n (λ k. t r k *ℚ x k)) ∙ ap (λ a. sp.0 i r *ℚ a) (e r p) ∙ *ℚ_zero (sp.0 i r))

pub by_basic : {P : Type 0} (s : Status) → (s ≡ Basic → P) → (¬ (s ≡ Basic) → P) → P
by_basic Basic f g = f refl
by_basic AtLower f g = g (λ e. cc)
by_basic AtUpper f g = g (λ e. cc)
by_basic AtZero f g = g (λ e. cc)

pub same_stand : (s : Status) (l u : Option ℚ) (v w : ℚ) → ¬ (s ≡ Basic) → Stands s l u v → Stands s l u w → v ≡ w
same_stand Basic l u v w n a c = absurd (n refl)
same_stand AtLower l u v w n a c = let e : Some v ≡ Some w = sym a ∙ c in cc
same_stand AtUpper l u v w n a c = let e : Some v ≡ Some w = sym a ∙ c in cc
same_stand AtZero l u v w n a c = a.2 ∙ sym c.2

module _ (m n : ℕ) (f : Matrix) (cost : ℕ → ℚ) (b : Bounds) (t : Table) (g : IsTableau m n f cost b t) where
  pub zero_at_basic : (k : ℕ) → k < n → t.status k ≡ Basic → t.reduced k ≡ 0ℚ
  zero_at_basic k h e = let p = g.placed k h e in ap t.reduced (sym p.2) ∙ g.costs.at_basic p.0 p.1

  -- a row at numbers that are 0 off the basic columns
  row_at : (z : ℕ → ℚ) → ((k : ℕ) → k < n → ¬ (t.status k ≡ Basic) → z k ≡ 0ℚ) → (r : ℕ) → r < m →
      sum_below n (λ k. t.entry r k *ℚ z k) ≡ z (t.basic r)
  row_at z o =
      rows.row_at m n t.entry t.basic g.units g.in_range z
      (λ k p none. o k p (λ e. let w = g.placed k p e in none w.0 w.1 w.2))

  pub same_values : (u : Table) → IsTableau m n f cost b u → SameStatuses n t u → (k : ℕ) → k < n →
      t.value k ≡ u.value k
  same_values u q same k h =
      by_basic (t.status k)
      (λ e. let w = g.placed k h e in
      from_difference (t.value k) (u.value k)
      (subst (λ k. t.value k -ℚ u.value k ≡ 0ℚ) w.2 (sym (row_at difference off w.0 w.1) ∙ solved w.0 w.1)))
      (λ e. same_at k h e)
    where
      difference : ℕ → ℚ
      difference k = t.value k -ℚ u.value k

      from_difference : (a c : ℚ) → a -ℚ c ≡ 0ℚ → a ≡ c
      from_difference a c e = sym (back_ a c) ∙ ap (λ d. d +ℚ c) e ∙ zero-+ℚ c
        where
          back_ : (a c : ℚ) → a -ℚ c +ℚ c ≡ a
          back_ a c = simp ring

      same_at : (k : ℕ) → k < n → ¬ (t.status k ≡ Basic) → t.value k ≡ u.value k
      same_at k h e =
          same_stand (t.status k) (b.lower k) (b.upper k) (t.value k) (u.value k) e (g.stands k h)
          (subst (λ s. Stands s (b.lower k) (b.upper k) (u.value k)) (sym (same k h)) (q.stands k h))

      off : (k : ℕ) → k < n → ¬ (t.status k ≡ Basic) → difference k ≡ 0ℚ
      off k h e = ap (λ a. a -ℚ u.value k) (same_at k h e) ∙ +ℚ_neg (u.value k)

      solved : (r : ℕ) → r < m → sum_below n (λ k. t.entry r k *ℚ difference k) ≡ 0ℚ
      solved = combined m n t.entry f g.forth difference
          (λ i h. sum_below_same n _ (λ k. f i k *ℚ t.value k -ℚ f i k *ℚ u.value k)
          (λ k _. open_ (f i k) (t.value k) (u.value k))
          ∙ sum_below-sub n _ _ ∙ ap₂ (λ a c. a -ℚ c) (g.solves i h) (q.solves i h) ∙ +ℚ_neg 0ℚ)
        where
          open_ : (a x y : ℚ) → a *ℚ (x -ℚ y) ≡ a *ℚ x -ℚ a *ℚ y
          open_ a x y = simp ring

  module _ (way : Way) (j : ℕ) (e : Enters n b t way j) where
    -- the reduced costs along the ray are the entering column's part
    pub ray_cost : sum_below n (λ k. t.reduced k *ℚ ray m t way j k) ≡ t.reduced j *ℚ sign way
    ray_cost =
        sum_below_same n _ (λ k. delta j k *ℚ (t.reduced k *ℚ ray m t way j k)) term
        ∙ sum_below-delta n j (λ k. t.reduced k *ℚ ray m t way j k) e.in_range
        ∙ ap (λ a. t.reduced j *ℚ a) (ray_at m t g.units way j (j_outside m n f cost b t g way j e))
      where
        term : (k : ℕ) → k < n → t.reduced k *ℚ ray m t way j k ≡ delta j k *ℚ (t.reduced k *ℚ ray m t way j k)
        term k h =
            by_eq j k
            (λ o. subst (λ k. t.reduced k *ℚ ray m t way j k ≡ delta j k *ℚ (t.reduced k *ℚ ray m t way j k)) o
            (sym (ap (λ a. a *ℚ (t.reduced j *ℚ ray m t way j j)) (delta_same j) ∙ one-*ℚ _)))
            (λ o. none k h o ∙ sym (ap (λ a. a *ℚ (t.reduced k *ℚ ray m t way j k)) (delta_other j k o) ∙ zero-*ℚ _))
          where
            none : (k : ℕ) → k < n → ¬ (j ≡ k) → t.reduced k *ℚ ray m t way j k ≡ 0ℚ
            none k h o =
                by_basic (t.status k)
                (λ s. ap (λ a. a *ℚ ray m t way j k) (zero_at_basic k h s) ∙ zero-*ℚ _)
                (λ s. ap (λ a. t.reduced k *ℚ a)
                (ray_still m t g.units way j (j_outside m n f cost b t g way j e) k o (outside m n f cost b t g k s))
                ∙ *ℚ_zero _)

    pub better : (t.reduced j *ℚ sign way) <ℚ 0ℚ
    better = go way e.eligible.improves
      where
        go : (way : Way) → Improves way (t.reduced j) → (t.reduced j *ℚ sign way) <ℚ 0ℚ
        go Up i = subst (λ a. a <ℚ 0ℚ) (sym (*ℚ_one (t.reduced j))) i
        go Down i = subst₂ ◌<ℚ◌ (minus (t.reduced j)) neg-zero (neg_strict 0ℚ (t.reduced j) i)
          where
            minus : (d : ℚ) → neg_ℚ d ≡ d *ℚ neg_ℚ 1ℚ
            minus d = simp ring

    pub cost_along : (theta : ℚ) →
        sum_below n (λ k. cost k *ℚ moved m t way j theta k)
        ≡ sum_below n (λ k. cost k *ℚ t.value k) +ℚ theta *ℚ (t.reduced j *ℚ sign way)
    cost_along theta = cost_moved m n f cost b t g way j e theta
        ∙ ap (λ a. sum_below n (λ k. cost k *ℚ t.value k) +ℚ theta *ℚ a)
        (sym (cost_ray m t g.units way j (j_outside m n f cost b t g way j e) n e.in_range
        g.in_range f cost t.reduced g.back g.costs.weights g.costs.less) ∙ ray_cost)
