-- No two of the truths hold together.
--
-- `one_optimum`: a model has one optimal value at most.
-- `not_both`: no model has an optimal value and is unbounded.
use Rattle.std.proofs.Common.{◌≡◌, suc, ℤ, pos, neg_ℤ, subst, subst₂}
use Rattle.spec_exact.specs.Fraction.{ℚ, neg_ℚ, ◌≤ℚ◌, whole, floor}
use Rattle.spec_exact.proofs.Order.{≤ℚ_antisym, by_le, <ℚ-le}
use Rattle.spec_exact.proofs.Strict.{neg_strict, <ℚ-≤ℚ_trans, ≤ℚ-<ℚ_trans, neg-whole}
use Rattle.spec_exact.proofs.Ruleset.{neg-neg}
use Rattle.spec_exact.proofs.Floor.{below_floor}
use Rattle.spec_model.specs.declared.parts.Sense.{Sense}
use Rattle.spec_model.specs.declared.parts.Sense.TheVariants.{Min, Max}
use Rattle.spec_model.specs.Model.{Model}
use Rattle.spec_model.specs.Truth.{IsBetter, IsOptimal, IsUnbounded}

-- two values, neither of which is better than the other, are equal
same_best : (s : Sense) (v w : ℚ) → ¬ (IsBetter s v w) → ¬ (IsBetter s w v) → v ≡ w
same_best Min v w f g = ≤ℚ_antisym v w (by_le v w (λ h. h) (λ h. absurd (g h))) (by_le w v (λ h. h) (λ h. absurd (f h)))
same_best Max v w f g = ≤ℚ_antisym v w (by_le v w (λ h. h) (λ h. absurd (f h))) (by_le w v (λ h. h) (λ h. absurd (g h)))

pub one_optimum : (m : Model) (v w : ℚ) → IsOptimal m v → IsOptimal m w → v ≡ w
one_optimum m v w p q =
    same_best m.sense v w
    (subst (λ a. ¬ (IsBetter m.sense a w)) p.point.2 (q.best p.point.0 p.point.1))
    (subst (λ a. ¬ (IsBetter m.sense a v)) q.point.2 (p.best q.point.0 q.point.1))

-- a whole number that is at most v
below : (v : ℚ) → whole (neg_ℤ (pos (suc (floor (neg_ℚ v))))) ≤ℚ v
below v =
    subst₂ ◌≤ℚ◌ (neg-whole (pos (suc (floor (neg_ℚ v)))))
    (neg-neg v) (<ℚ-le _ _ (neg_strict _ _ (below_floor (neg_ℚ v))))

-- for each v there is a whole number k such that any number that is better than k is better than v
past : (s : Sense) (v : ℚ) → (k : ℤ) × ((w : ℚ) → IsBetter s w (whole k) → IsBetter s w v)
past Min v = (neg_ℤ (pos (suc (floor (neg_ℚ v)))), λ w h. <ℚ-≤ℚ_trans w _ v h (below v))
past Max v = (pos (suc (floor v)), λ w h. ≤ℚ-<ℚ_trans v _ w (<ℚ-le _ _ (below_floor v)) h)

pub not_both : (m : Model) (v : ℚ) → IsOptimal m v → IsUnbounded m → ⊥
not_both m v p u = let k = past m.sense v in let z = u k.0 in p.best z.0 z.1 (k.1 _ z.2)
