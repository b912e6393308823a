-- Numbers with a sign over a denominator, as fractions.
--
-- `zero_is`: where n is 0 and d is 1, n / d is 0.
-- `one_is`: where n and d are 1, n / d is 1.
-- `negated_is`: a number of the other sign over d is the negative of the fraction.
-- `shared_is`: dividing the numerator and the denominator by a common divisor leaves the fraction.
-- `same_sign`: a sign and a magnitude make the same whole number by both definitions.
-- `ratio_is`: where magnitudes and denominators are equal, the fraction by `with_sign` and the one by `whole` of a
--   magnitude with a sign are equal.
use Rattle.std.proofs.Common.{◌≡◌, ℕ, zero, suc, ◌*◌, ◌<◌, pos, neg_ℤ, [], ◌∷◌, Bool, true, false, not}
use Rattle.std.proofs.Common.{refl, sym, ap, ap₂, ◌∙◌, arith}
use Rattle.spec_exact.specs.Fraction.{over, neg_ℚ, 0ℚ, 1ℚ}
use Rattle.spec_exact.proofs.Ring.{minus, lit, v0}
use Rattle.spec_exact.proofs.WholeRing.{by_ring}
use Rattle.spec_exact.proofs.Field.{by_ring_ℚ, whole_over}
use Rattle.spec_exact.proofs.Coprime.{positive_left, positive_right}
use Rattle.lp_ratio.specs.Parts.{with_sign}
use Rattle.lp_natural.specs.Whole.{whole}
use Rattle.lp_natural.proofs.EliminatedRows.{without_divisor}
use Rattle.lp_rows.proofs.Cleared.{over_neg, whole-times}

pub zero_is : (n d : ℕ) → n ≡ 0 → d ≡ 1 → over (pos n) d ≡ 0ℚ
zero_is n d e f = ap₂ (λ n d. over (pos n) d) e f ∙ sym (whole_over (pos 0))

pub one_is : (n d : ℕ) → n ≡ 1 → d ≡ 1 → over (pos n) d ≡ 1ℚ
one_is n d e f = ap₂ (λ n d. over (pos n) d) e f ∙ sym (whole_over (pos 1))

-- a magnitude with the other sign makes the negative of the whole number
turned : (negative : Bool) (n : ℕ) → whole (not negative) n ≡ neg_ℤ (whole negative n)
turned true n = by_ring (pos n ∷ []) v0 (minus (minus v0)) refl
turned false n = refl

pub negated_is : (negative : Bool) (n d : ℕ) → over (whole (not negative) n) d ≡ neg_ℚ (over (whole negative n) d)
unfolding over
negated_is negative n zero = by_ring_ℚ [] (lit (pos 0)) (minus (lit (pos 0))) refl
negated_is negative n (suc d) =
    ap (λ z. over z (suc d)) (turned negative n) ∙ over_neg (whole negative n) (suc d) (omega arith)

-- both parts without a divisor
pub shared_is : (negative : Bool) (size d p q g : ℕ) → 0 < d → p * g ≡ size → q * g ≡ d →
    over (whole negative p) q ≡ over (whole negative size) d
shared_is negative size d p q g l e f =
    sym (without_divisor (whole negative size) (whole negative p) d q g (positive_left q g d f l)
    (positive_right q g d f l) (sym (whole-times negative p g size e)) f)

pub same_sign : (negative : Bool) (n : ℕ) → with_sign negative n ≡ whole negative n
same_sign true n = refl
same_sign false n = refl

pub ratio_is : (negative : Bool) (n d m e : ℕ) → n ≡ m → d ≡ e →
    over (with_sign negative n) d ≡ over (whole negative m) e
ratio_is negative n d m e f g = ap₂ (λ n d. over (with_sign negative n) d) f g ∙ ap (λ z. over z e) (same_sign negative m)
