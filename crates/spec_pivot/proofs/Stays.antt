-- A move for which there is room keeps every value within its bounds.
use Rattle.std.proofs.Common.{◌≡◌, ℕ, ◌<◌, Option, Some, None, Bool, true, false, cond}
use Rattle.std.proofs.Common.{option_map, IfSome, refl, sym, ap, ◌∙◌, subst, subst₂}
use Rattle.spec_exact.specs.Fraction.{ℚ, ◌+ℚ◌, ◌-ℚ◌, ◌*ℚ◌, neg_ℚ, inverse, 0ℚ, 1ℚ, ◌≤ℚ◌, ◌<ℚ◌, lt_ℚ}
use Rattle.spec_exact.proofs.Field.{+ℚ_zero, *ℚ_comm, *ℚ_zero}
use Rattle.spec_exact.proofs.Order.{≤ℚ_refl, ≤ℚ_trans, +ℚ_mono, *ℚ_mono, <ℚ-le, lt_if, le_if_not}
use Rattle.spec_exact.proofs.Ruleset.{ring, neg-zero}
use Rattle.spec_exact.proofs.Strict.{zero-lt-one, neg_mono, +ℚ_mono₂, not-zero_from_lt}
use Rattle.spec_exact.proofs.Magnitudes.{below_turned}
use Rattle.spec_pivot.specs.Tableau.{Matrix}
use Rattle.spec_pivot.specs.declared.status.Status.{Status}
use Rattle.spec_pivot.specs.declared.status.Status.TheVariants.{Basic, AtLower, AtUpper, AtZero}
use Rattle.spec_pivot.specs.declared.status.Way.{Way}
use Rattle.spec_pivot.specs.declared.status.Way.TheVariants.{Up, Down}
use Rattle.spec_pivot.specs.Simplex.{IsInside, IsWithin, sign, Bounds, CanMove}
use Rattle.spec_pivot.specs.Simplex.{Stands, Table, ray, IsTableau, Enters, moved}
use Rattle.spec_pivot.specs.Ratio.{room, HasRoom}
use Rattle.spec_pivot.proofs.Pivot.{by_eq}
use Rattle.spec_pivot.proofs.SameEquations.{outside, j_outside}
use Rattle.spec_pivot.proofs.Ray.{ray_at, ray_still}
use Rattle.spec_pivot.proofs.Ratio.{reaches}
use Rattle.spec_pivot.proofs.Values.{by_basic}

-- a value does not fall by a move of at least 0 at a rate of at least 0
rises : (v theta r : ℚ) → 0ℚ ≤ℚ theta → 0ℚ ≤ℚ r → v ≤ℚ (v +ℚ theta *ℚ r)
rises v theta r h k =
    subst (λ a. a ≤ℚ (v +ℚ theta *ℚ r)) (+ℚ_zero v)
    (+ℚ_mono₂ v v 0ℚ (theta *ℚ r) (≤ℚ_refl v) (subst (λ a. a ≤ℚ (theta *ℚ r)) (*ℚ_zero theta) (*ℚ_mono 0ℚ r theta h k)))

-- a value does not rise by a move of at least 0 at a rate of at most 0
falls : (v theta r : ℚ) → 0ℚ ≤ℚ theta → r ≤ℚ 0ℚ → (v +ℚ theta *ℚ r) ≤ℚ v
falls v theta r h k =
    subst (λ a. (v +ℚ theta *ℚ r) ≤ℚ a) (+ℚ_zero v)
    (+ℚ_mono₂ v v (theta *ℚ r) 0ℚ (≤ℚ_refl v) (subst (λ a. (theta *ℚ r) ≤ℚ a) (*ℚ_zero theta) (*ℚ_mono r 0ℚ theta h k)))

-- a rising value that moves within its room to the bound a stays at most a
up_to_bound : (a v theta r : ℚ) → 0ℚ <ℚ r → theta ≤ℚ ((a -ℚ v) *ℚ inverse r) → (v +ℚ theta *ℚ r) ≤ℚ a
up_to_bound a v theta r p h =
    subst (λ z. (v +ℚ theta *ℚ r) ≤ℚ z) (reaches a v r (not-zero_from_lt r p))
    (+ℚ_mono₂ v v (theta *ℚ r) (((a -ℚ v) *ℚ inverse r) *ℚ r) (≤ℚ_refl v)
    (subst₂ ◌≤ℚ◌ (*ℚ_comm r theta) (*ℚ_comm r ((a -ℚ v) *ℚ inverse r))
    (*ℚ_mono theta ((a -ℚ v) *ℚ inverse r) r (<ℚ-le 0ℚ r p) h)))

-- a falling value that moves within its room to the bound a stays at least a
down_to_bound : (a v theta r : ℚ) → r <ℚ 0ℚ → theta ≤ℚ ((v -ℚ a) *ℚ inverse (neg_ℚ r)) → a ≤ℚ (v +ℚ theta *ℚ r)
down_to_bound a v theta r p h =
    subst₂ ◌≤ℚ◌ (twice a) (turn v theta r)
    (neg_mono _ _ (up_to_bound (neg_ℚ a) (neg_ℚ v) theta (neg_ℚ r)
    (below_turned r p) (subst (λ z. theta ≤ℚ (z *ℚ inverse (neg_ℚ r))) (gap v a) h)))
  where
    twice : (a : ℚ) → neg_ℚ (neg_ℚ a) ≡ a
    twice a = simp ring

    turn : (v theta r : ℚ) → neg_ℚ (neg_ℚ v +ℚ theta *ℚ neg_ℚ r) ≡ v +ℚ theta *ℚ r
    turn v theta r = simp ring

    gap : (v a : ℚ) → v -ℚ a ≡ neg_ℚ a -ℚ neg_ℚ v
    gap v a = simp ring

-- a rising value that moves within its room stays at most its upper bound
upper_kept : (o : Option ℚ) (v theta r : ℚ) → 0ℚ <ℚ r
    → ((q : ℚ) → option_map (λ u. (u -ℚ v) *ℚ inverse r) o ≡ Some q → theta ≤ℚ q) →
    IfSome o (λ k. (v +ℚ theta *ℚ r) ≤ℚ k)
upper_kept None v theta r p h = tt
upper_kept (Some u) v theta r p h = up_to_bound u v theta r p (h ((u -ℚ v) *ℚ inverse r) refl)

-- a falling value that moves within its room stays at least its lower bound
lower_kept : (o : Option ℚ) (v theta r : ℚ) → r <ℚ 0ℚ
    → ((q : ℚ) → option_map (λ l. (v -ℚ l) *ℚ inverse (neg_ℚ r)) o ≡ Some q → theta ≤ℚ q) →
    IfSome o (λ k. k ≤ℚ (v +ℚ theta *ℚ r))
lower_kept None v theta r p h = tt
lower_kept (Some l) v theta r p h = down_to_bound l v theta r p (h ((v -ℚ l) *ℚ inverse (neg_ℚ r)) refl)

-- a number that is at most a value is at most the upper bound that the value keeps
upper_more : (o : Option ℚ) (v w : ℚ) → w ≤ℚ v → IfSome o (λ k. v ≤ℚ k) → IfSome o (λ k. w ≤ℚ k)
upper_more None v w h i = tt
upper_more (Some u) v w h i = ≤ℚ_trans w v u h i

-- a number that is at least a value is at least the lower bound that the value keeps
lower_more : (o : Option ℚ) (v w : ℚ) → v ≤ℚ w → IfSome o (λ k. k ≤ℚ v) → IfSome o (λ k. k ≤ℚ w)
lower_more None v w h i = tt
lower_more (Some l) v w h i = ≤ℚ_trans l v w i h

-- a value within its bounds that moves within its room stays within them
room_kept : (b : Bounds) (k : ℕ) (v r theta : ℚ) → 0ℚ ≤ℚ theta →
    IsInside (b.lower k) (b.upper k) v → ((q : ℚ) → room b k v r ≡ Some q → theta ≤ℚ q)
    → IsInside (b.lower k) (b.upper k) (v +ℚ theta *ℚ r)
room_kept b k v r theta f i h = by (lt_ℚ 0ℚ r) (lt_ℚ r 0ℚ) refl refl h
  where
    by : (s t : Bool) → lt_ℚ 0ℚ r ≡ s → lt_ℚ r 0ℚ ≡ t
        → ((q : ℚ) → cond s (option_map (λ u. (u -ℚ v) *ℚ inverse r) (b.upper k))
        (cond t (option_map (λ l. (v -ℚ l) *ℚ inverse (neg_ℚ r)) (b.lower k)) None) ≡ Some q → theta ≤ℚ q)
        → IsInside (b.lower k) (b.upper k) (v +ℚ theta *ℚ r)
    by true t p q g = record {
      lower = lower_more (b.lower k) v (v +ℚ theta *ℚ r) (rises v theta r f (<ℚ-le 0ℚ r (lt_if 0ℚ r p))) i.lower;
      upper = upper_kept (b.upper k) v theta r (lt_if 0ℚ r p) g;
    }
    by false true p q g = record {
      lower = lower_kept (b.lower k) v theta r (lt_if r 0ℚ q) g;
      upper = upper_more (b.upper k) v (v +ℚ theta *ℚ r) (falls v theta r f (<ℚ-le r 0ℚ (lt_if r 0ℚ q))) i.upper;
    }
    by false false p q g = record {
      lower = lower_more (b.lower k) v (v +ℚ theta *ℚ r) (rises v theta r f (le_if_not r 0ℚ q)) i.lower;
      upper = upper_more (b.upper k) v (v +ℚ theta *ℚ r) (falls v theta r f (le_if_not 0ℚ r p)) i.upper;
    }

-- a column that moves off the bound at which it stands, by at most its range, stays within its bounds
own_kept : (l u : Option ℚ) (v theta : ℚ) (way : Way) (s : Status) → CanMove way s → Stands s l u v → 0ℚ ≤ℚ theta
    → ((x y : ℚ) → l ≡ Some x → u ≡ Some y → theta ≤ℚ (y -ℚ x))
    → IsInside l u v → IsInside l u (v +ℚ theta *ℚ sign way)
own_kept l u v theta Up AtLower c s f h i = record {
  lower = lower_more l v _ (rises v theta 1ℚ f (≤ℚ_one)) i.lower;
  upper = go u refl;
}
  where
    ≤ℚ_one : 0ℚ ≤ℚ 1ℚ
    ≤ℚ_one = <ℚ-le 0ℚ 1ℚ zero-lt-one

    go : (o : Option ℚ) → u ≡ o → IfSome o (λ k. (v +ℚ theta *ℚ 1ℚ) ≤ℚ k)
    go None e = tt
    go (Some y) e = subst₂ ◌≤ℚ◌ (close₁ v theta) (close₂ v y) (+ℚ_mono theta (y -ℚ v) v (h v y s e))
      where
        close₁ : (v theta : ℚ) → theta +ℚ v ≡ v +ℚ theta *ℚ 1ℚ
        close₁ v theta = simp ring

        close₂ : (v y : ℚ) → (y -ℚ v) +ℚ v ≡ y
        close₂ v y = simp ring
own_kept l u v theta Up AtZero c s f h i = record {
  lower = subst (λ o. IfSome o (λ k. k ≤ℚ (v +ℚ theta *ℚ 1ℚ))) (sym s.0) tt;
  upper = subst (λ o. IfSome o (λ k. (v +ℚ theta *ℚ 1ℚ) ≤ℚ k)) (sym s.1) tt;
}
own_kept l u v theta Down AtUpper c s f h i = record {
  lower = go l refl;
  upper = upper_more u v _ (falls v theta (neg_ℚ 1ℚ) f least) i.upper;
}
  where
    least : neg_ℚ 1ℚ ≤ℚ 0ℚ
    least = subst (λ a. neg_ℚ 1ℚ ≤ℚ a) neg-zero (neg_mono 0ℚ 1ℚ (<ℚ-le 0ℚ 1ℚ zero-lt-one))

    go : (o : Option ℚ) → l ≡ o → IfSome o (λ k. k ≤ℚ (v +ℚ theta *ℚ neg_ℚ 1ℚ))
    go None e = tt
    go (Some x) e = subst₂ ◌≤ℚ◌ (close₁ v theta x) (close₂ v theta) (+ℚ_mono theta (v -ℚ x) (x -ℚ theta) (h x v e s))
      where
        close₁ : (v theta x : ℚ) → theta +ℚ (x -ℚ theta) ≡ x
        close₁ v theta x = simp ring

        close₂ : (v theta : ℚ) → (v -ℚ x) +ℚ (x -ℚ theta) ≡ v +ℚ theta *ℚ neg_ℚ 1ℚ
        close₂ v theta = simp ring
own_kept l u v theta Down AtZero c s f h i = record {
  lower = subst (λ o. IfSome o (λ k. k ≤ℚ (v +ℚ theta *ℚ neg_ℚ 1ℚ))) (sym s.0) tt;
  upper = subst (λ o. IfSome o (λ k. (v +ℚ theta *ℚ neg_ℚ 1ℚ) ≤ℚ k)) (sym s.1) tt;
}
own_kept l u v theta Up Basic c s f h i = absurd c
own_kept l u v theta Up AtUpper c s f h i = absurd c
own_kept l u v theta Down Basic c s f h i = absurd c
own_kept l u v theta Down AtLower c s f h i = absurd c

-- where there is room, a move of the entering column keeps each value within its bounds
pub stays_within : (m n : ℕ) (f : Matrix) (cost : ℕ → ℚ) (b : Bounds) (t : Table) (way : Way) (j : ℕ) (theta : ℚ) →
    IsTableau m n f cost b t
    → IsWithin n b t → Enters n b t way j → HasRoom m b t way j theta →
    (k : ℕ) → k < n → IsInside (b.lower k) (b.upper k) (moved m t way j theta k)
stays_within m n f cost b t way j theta g within e h k p =
    by_basic (t.status k)
    (λ s. let q = g.placed k p s in
    subst (λ k. IsInside (b.lower k) (b.upper k) (moved m t way j theta k)) q.2
    (room_kept b (t.basic q.0) (t.value (t.basic q.0)) (ray m t way j (t.basic q.0)) theta h.forward
    (within (t.basic q.0) (g.in_range q.0 q.1)) (h.others q.0 q.1)))
    (λ s. by_eq j k
    (λ o. subst (λ k. IsInside (b.lower k) (b.upper k) (moved m t way j theta k)) o
    (subst (λ r. IsInside (b.lower j) (b.upper j) (t.value j +ℚ theta *ℚ r))
    (sym (ray_at m t g.units way j (j_outside m n f cost b t g way j e)))
    (own_kept (b.lower j) (b.upper j) (t.value j) theta way (t.status j) e.eligible.status
    (g.stands j e.in_range) h.forward h.own (within j e.in_range))))
    (λ o. subst (λ r. IsInside (b.lower k) (b.upper k) (t.value k +ℚ theta *ℚ r))
    (sym (ray_still m t g.units way j (j_outside m n f cost b t g way j e) k o (outside m n f cost b t g k s)))
    (subst (IsInside (b.lower k) (b.upper k))
    (sym (ap (λ a. t.value k +ℚ a) (*ℚ_zero theta) ∙ +ℚ_zero (t.value k))) (within k p))))
