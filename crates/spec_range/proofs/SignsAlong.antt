-- For which t a multiple of v - t has the sign that a status asks of a reduced cost.
--
-- `up_from`: t is at most v exactly where v - t is at least 0.
-- `down_from`: v is at most t exactly where v - t is at most 0.
-- `meets_above`: for a that is not 0, t is at most v if a is above 0, else at least v, exactly where a times (v - t) is
--   at least 0.
-- `meets_below`: for a that is not 0, t is at least v if a is above 0, else at most v, exactly where a times (v - t) is
--   at most 0.
-- `ends_ok`: for a that is not 0, the ends that a status makes of e with v have the numbers t of e for which a times
--   (v - t) suits the status.
use Rattle.std.proofs.Common.{◌≡◌, ◌↔◌, ℕ, Option, Ok, Bool, true, false, not, refl, sym, subst, subst₂}
use Rattle.spec_exact.specs.Fraction.{ℚ, ◌-ℚ◌, ◌*ℚ◌, neg_ℚ, 0ℚ, ◌≤ℚ◌, ◌<ℚ◌, lt_ℚ}
use Rattle.spec_exact.proofs.Field.{*ℚ_zero}
use Rattle.spec_exact.proofs.Order.{≤ℚ_refl, ≤ℚ_antisym, +ℚ_mono, *ℚ_mono, by_le, lt_if, le_if_not, <ℚ-le}
use Rattle.spec_exact.proofs.Ruleset.{ring}
use Rattle.spec_exact.proofs.Strict.{*ℚ_mono_back, neg_mono, neg_mono_back, neg_strict}
use Rattle.spec_pivot.specs.declared.status.Status.{Status}
use Rattle.spec_pivot.specs.declared.status.Status.TheVariants.{Basic, AtLower, AtUpper, AtZero}
use Rattle.spec_pivot.specs.Dual.{Suits}
use Rattle.spec_simplex.proofs.RunParts.{then_ok}
use Rattle.spec_range.specs.declared.range.Ends.{Ends}
use Rattle.spec_range.specs.Rule.{at_least, at_most, ends_by}
use Rattle.spec_range.proofs.TightestEnds.{Cuts, Meets, at_least_ok, at_most_ok, at_side_ok, cuts_as, cuts_none, cuts_both}

-- ---- differences
pub up_from : (v t : ℚ) → t ≤ℚ v ↔ 0ℚ ≤ℚ (v -ℚ t)
up_from v t = (
  λ h. subst₂ ◌≤ℚ◌ (simp ring) refl (+ℚ_mono t v (neg_ℚ t) h),
  λ h. subst₂ ◌≤ℚ◌ (simp ring) (simp ring) (+ℚ_mono 0ℚ (v -ℚ t) t h),
)

pub down_from : (v t : ℚ) → v ≤ℚ t ↔ (v -ℚ t) ≤ℚ 0ℚ
down_from v t = (
  λ h. subst₂ ◌≤ℚ◌ refl (simp ring) (+ℚ_mono v t (neg_ℚ t) h),
  λ h. subst₂ ◌≤ℚ◌ (simp ring) (simp ring) (+ℚ_mono (v -ℚ t) 0ℚ t h),
)

-- ---- a factor above 0, and one below
module _ (a : ℚ) (above : 0ℚ <ℚ a) where
  -- where a is above 0, w is at least 0 exactly where a times w is
  grows : (w : ℚ) → 0ℚ ≤ℚ w ↔ 0ℚ ≤ℚ (a *ℚ w)
  grows w = (
    λ h. subst (λ z. z ≤ℚ (a *ℚ w)) (*ℚ_zero a) (*ℚ_mono 0ℚ w a (<ℚ-le 0ℚ a above) h),
    λ h. *ℚ_mono_back 0ℚ w a above (subst (λ z. z ≤ℚ (a *ℚ w)) (sym (*ℚ_zero a)) h),
  )

  -- where a is above 0, w is at most 0 exactly where a times w is
  shrinks : (w : ℚ) → w ≤ℚ 0ℚ ↔ (a *ℚ w) ≤ℚ 0ℚ
  shrinks w = (
    λ h. subst (λ z. (a *ℚ w) ≤ℚ z) (*ℚ_zero a) (*ℚ_mono w 0ℚ a (<ℚ-le 0ℚ a above) h),
    λ h. *ℚ_mono_back w 0ℚ a above (subst (λ z. (a *ℚ w) ≤ℚ z) (sym (*ℚ_zero a)) h),
  )

  -- where a is above 0, t is at most v exactly where a times (v - t) is at least 0
  falls_above : (v t : ℚ) → t ≤ℚ v ↔ 0ℚ ≤ℚ (a *ℚ (v -ℚ t))
  falls_above v t = (
    λ h. (grows (v -ℚ t)).0 ((up_from v t).0 h),
    λ h. (up_from v t).1 ((grows (v -ℚ t)).1 h),
  )

  -- where a is above 0, v is at most t exactly where a times (v - t) is at most 0
  falls_below : (v t : ℚ) → v ≤ℚ t ↔ (a *ℚ (v -ℚ t)) ≤ℚ 0ℚ
  falls_below v t = (
    λ h. (shrinks (v -ℚ t)).0 ((down_from v t).0 h),
    λ h. (down_from v t).1 ((shrinks (v -ℚ t)).1 h),
  )

module _ (a : ℚ) (below : a <ℚ 0ℚ) where
  -- where a is below 0, its negative is above 0
  turned : 0ℚ <ℚ neg_ℚ a
  turned = subst (λ z. z <ℚ neg_ℚ a) (simp ring) (neg_strict a 0ℚ below)

  -- the negative of a times w is the negative of a, times w
  turn : (w : ℚ) → neg_ℚ a *ℚ w ≡ neg_ℚ (a *ℚ w)
  turn w = simp ring

  -- where a is below 0, v is at most t exactly where a times (v - t) is at least 0
  rises_above : (v t : ℚ) → v ≤ℚ t ↔ 0ℚ ≤ℚ (a *ℚ (v -ℚ t))
  rises_above v t = (
    λ h. neg_mono_back 0ℚ (a *ℚ (v -ℚ t)) (subst₂ ◌≤ℚ◌ (turn (v -ℚ t)) (simp ring)
        ((falls_below (neg_ℚ a) turned v t).0 h)),
    λ h. (falls_below (neg_ℚ a) turned v t).1
        (subst₂ ◌≤ℚ◌ (sym (turn (v -ℚ t))) (simp ring) (neg_mono 0ℚ (a *ℚ (v -ℚ t)) h)),
  )

  -- where a is below 0, t is at most v exactly where a times (v - t) is at most 0
  rises_below : (v t : ℚ) → t ≤ℚ v ↔ (a *ℚ (v -ℚ t)) ≤ℚ 0ℚ
  rises_below v t = (
    λ h. neg_mono_back (a *ℚ (v -ℚ t)) 0ℚ (subst₂ ◌≤ℚ◌ (simp ring) (turn (v -ℚ t))
        ((falls_above (neg_ℚ a) turned v t).0 h)),
    λ h. (falls_above (neg_ℚ a) turned v t).1
        (subst₂ ◌≤ℚ◌ (simp ring) (sym (turn (v -ℚ t))) (neg_mono (a *ℚ (v -ℚ t)) 0ℚ h)),
  )

-- ---- a number that is not 0 is above 0 or below

-- where the test for above 0 holds, a number is above 0
above_if : (a : ℚ) → lt_ℚ 0ℚ a ≡ true → 0ℚ <ℚ a
above_if a e = lt_if 0ℚ a e

-- where the test for above 0 fails, a number that is not 0 is below 0
below_if : (a : ℚ) → ¬ (a ≡ 0ℚ) → lt_ℚ 0ℚ a ≡ false → a <ℚ 0ℚ
below_if a n e = by_le 0ℚ a (λ h. absurd (n (≤ℚ_antisym a 0ℚ (le_if_not 0ℚ a e) h))) (λ h. h)

-- ---- the sign of a * (v - t), by the side of t
pub meets_above : (a v : ℚ) → ¬ (a ≡ 0ℚ) → (t : ℚ) → Meets (lt_ℚ 0ℚ a) v t ↔ 0ℚ ≤ℚ (a *ℚ (v -ℚ t))
meets_above a v n t = go (lt_ℚ 0ℚ a) refl
  where
    go : (c : Bool) → lt_ℚ 0ℚ a ≡ c → Meets c v t ↔ 0ℚ ≤ℚ (a *ℚ (v -ℚ t))
    go true e = falls_above a (above_if a e) v t
    go false e = rises_above a (below_if a n e) v t

pub meets_below : (a v : ℚ) → ¬ (a ≡ 0ℚ) → (t : ℚ) → Meets (not (lt_ℚ 0ℚ a)) v t ↔ (a *ℚ (v -ℚ t)) ≤ℚ 0ℚ
meets_below a v n t = go (lt_ℚ 0ℚ a) refl
  where
    go : (c : Bool) → lt_ℚ 0ℚ a ≡ c → Meets (not c) v t ↔ (a *ℚ (v -ℚ t)) ≤ℚ 0ℚ
    go true e = falls_below a (above_if a e) v t
    go false e = rises_below a (below_if a n e) v t

-- a number is at most 0 and at least 0 exactly where it is 0
both_zero : (w : ℚ) → ((w ≤ℚ 0ℚ) × (0ℚ ≤ℚ w)) ↔ (w ≡ 0ℚ)
both_zero w = (
  λ h. ≤ℚ_antisym w 0ℚ h.0 h.1,
  λ e. (subst (λ z. z ≤ℚ 0ℚ) (sym e) (≤ℚ_refl 0ℚ), subst (λ z. 0ℚ ≤ℚ z) (sym e) (≤ℚ_refl 0ℚ)),
)

-- for a that is not 0, t is at least v and at most v exactly where a times v less t is 0
meets_zero : (a v : ℚ) → ¬ (a ≡ 0ℚ) → (t : ℚ) → ((v ≤ℚ t) × (t ≤ℚ v)) ↔ (a *ℚ (v -ℚ t) ≡ 0ℚ)
meets_zero a v n t = go (lt_ℚ 0ℚ a) refl
  where
    go : (c : Bool) → lt_ℚ 0ℚ a ≡ c → ((v ≤ℚ t) × (t ≤ℚ v)) ↔ (a *ℚ (v -ℚ t) ≡ 0ℚ)
    go true e =
        let p = above_if a e in (
          λ h. (both_zero (a *ℚ (v -ℚ t))).0 ((falls_below a p v t).0 h.0, (falls_above a p v t).0 h.1),
          λ h. let o = (both_zero (a *ℚ (v -ℚ t))).1 h in ((falls_below a p v t).1 o.0, (falls_above a p v t).1 o.1),
        )
    go false e =
        let p = below_if a n e in (
          λ h. (both_zero (a *ℚ (v -ℚ t))).0 ((rises_below a p v t).0 h.1, (rises_above a p v t).0 h.0),
          λ h. let o = (both_zero (a *ℚ (v -ℚ t))).1 h in ((rises_above a p v t).1 o.1, (rises_below a p v t).1 o.0),
        )

-- ---- the ends that a status asks for
pub ends_ok : (limit : Option ℕ) (s : Status) (a v : ℚ) (e x : Ends ℚ) → ¬ (a ≡ 0ℚ) →
    ends_by limit s (lt_ℚ 0ℚ a) v e ≡ Ok x → Cuts e (λ t. Suits s (a *ℚ (v -ℚ t))) x
ends_ok limit Basic a v e x n h = cuts_none e x (λ t. Unit {0}) (λ t. tt) h
ends_ok limit AtLower a v e x n h =
    cuts_as e x (Meets (lt_ℚ 0ℚ a) v) (λ t. 0ℚ ≤ℚ (a *ℚ (v -ℚ t))) (meets_above a v n)
    (at_side_ok limit (lt_ℚ 0ℚ a) v e x h)
ends_ok limit AtUpper a v e x n h =
    cuts_as e x (Meets (not (lt_ℚ 0ℚ a)) v) (λ t. (a *ℚ (v -ℚ t)) ≤ℚ 0ℚ) (meets_below a v n)
    (at_side_ok limit (not (lt_ℚ 0ℚ a)) v e x h)
ends_ok limit AtZero a v e x n h =
    let o = then_ok (at_least limit v e) (λ e. at_most limit v e) x h in
    cuts_as e x (λ t. (v ≤ℚ t) × (t ≤ℚ v)) (λ t. a *ℚ (v -ℚ t) ≡ 0ℚ) (meets_zero a v n)
    (cuts_both e o.0 x (λ t. v ≤ℚ t) (λ t. t ≤ℚ v) (at_least_ok limit v e o.0 o.1) (at_most_ok limit v o.0 x o.2))
