-- Magnitudes, and the signs of negatives.
--
-- `abs_above`: the magnitude of a fraction of at least 0 is the fraction.
-- `abs_below`: the magnitude of a fraction below 0 is its negative.
-- `below_turned`: the negative of a fraction below 0 is above 0.
-- `above_turned`: the negative of a fraction above 0 is below 0.
-- `turned_back`: a fraction whose negative is below 0 is above 0.
-- `turned_down`: a fraction whose negative is above 0 is below 0.
-- `abs_at_most`: the magnitude of a fraction of at most 0 is its negative.
-- `abs_least`: a magnitude is at least 0.
-- `abs_positive`: the magnitude of a fraction other than 0 is above 0.
use Rattle.std.proofs.Common.{◌≡◌, ℕ, ℤ, pos, ◌*ℤ◌, ◌<ℤ◌, ◌≤ℤ◌, int_lt, Bool}
use Rattle.std.proofs.Common.{true, false, cond, refl, sym, ap, ◌∙◌, subst, arith}
use Rattle.std.proofs.lemmas.Int.{ints}
use borrow.Author.Differences.{at_most_in, below_in, lt-true, lt-false}
use Rattle.spec_exact.specs.Fraction.{ℚ, 0ℚ, neg_ℚ, abs_ℚ, whole, ◌<ℚ◌, ◌≤ℚ◌}
use Rattle.spec_exact.proofs.Order.{from_num, ≤ℚ_antisym, ≤ℚ_refl, <ℚ-le, clash_ℚ}
use Rattle.spec_exact.proofs.Ruleset.{neg-neg, neg-zero}
use Rattle.spec_exact.proofs.Strict.{neg_strict, by_sign}

-- a fraction whose numerator is not below 0 is at least 0
num_positive : (x : ℚ) → int_lt x.num (pos 0) ≡ false → 0ℚ ≤ℚ x
num_positive x e = from_num x (at_most_in _ _ (lt-false x.num (pos 0) e))

-- a fraction whose numerator is below 0 is at most 0
num_negative : (x : ℚ) → int_lt x.num (pos 0) ≡ true → x ≤ℚ 0ℚ
unfolding whole
num_negative x e = record { at_most = by x.num x.den (below_in _ _ (lt-true x.num (pos 0) e)) }
  where
    by : (n : ℤ) (d : ℕ) → n <ℤ pos 0 → (n *ℤ pos 1) ≤ℤ (pos 0 *ℤ pos d)
    by n d h = omega (arith, ints)

pub abs_above : (x : ℚ) → 0ℚ ≤ℚ x → abs_ℚ x ≡ x
abs_above x h = by (int_lt x.num (pos 0)) refl
  where
    by : (t : Bool) → int_lt x.num (pos 0) ≡ t → cond t (neg_ℚ x) x ≡ x
    by true e = let z : x ≡ 0ℚ = ≤ℚ_antisym x 0ℚ (num_negative x e) h in ap neg_ℚ z ∙ neg-zero ∙ sym z
    by false e = refl

pub abs_below : (x : ℚ) → x <ℚ 0ℚ → abs_ℚ x ≡ neg_ℚ x
abs_below x h = by (int_lt x.num (pos 0)) refl
  where
    by : (t : Bool) → int_lt x.num (pos 0) ≡ t → cond t (neg_ℚ x) x ≡ neg_ℚ x
    by true e = refl
    by false e = clash_ℚ x 0ℚ h (num_positive x e)

pub below_turned : (x : ℚ) → x <ℚ 0ℚ → 0ℚ <ℚ neg_ℚ x
below_turned x h = subst (λ a. a <ℚ neg_ℚ x) neg-zero (neg_strict x 0ℚ h)

pub above_turned : (x : ℚ) → 0ℚ <ℚ x → neg_ℚ x <ℚ 0ℚ
above_turned x h = subst (λ a. neg_ℚ x <ℚ a) neg-zero (neg_strict 0ℚ x h)

pub turned_back : (x : ℚ) → neg_ℚ x <ℚ 0ℚ → 0ℚ <ℚ x
turned_back x h = subst (λ a. 0ℚ <ℚ a) (neg-neg x) (below_turned (neg_ℚ x) h)

pub turned_down : (x : ℚ) → 0ℚ <ℚ neg_ℚ x → x <ℚ 0ℚ
turned_down x h = subst (λ a. a <ℚ 0ℚ) (neg-neg x) (above_turned (neg_ℚ x) h)

-- a magnitude is not below 0, and 0 only of 0
pub abs_at_most : (x : ℚ) → x ≤ℚ 0ℚ → abs_ℚ x ≡ neg_ℚ x
abs_at_most x h =
    by_sign x (λ p. clash_ℚ 0ℚ x p h) (abs_below x)
    (λ e. abs_above x (subst (λ a. 0ℚ ≤ℚ a) (sym e) (≤ℚ_refl 0ℚ)) ∙ e ∙ sym neg-zero ∙ ap neg_ℚ (sym e))

pub abs_least : (x : ℚ) → 0ℚ ≤ℚ abs_ℚ x
abs_least x =
    by_sign x
    (λ p. subst (λ a. 0ℚ ≤ℚ a) (sym (abs_above x (<ℚ-le 0ℚ x p))) (<ℚ-le 0ℚ x p))
    (λ p. subst (λ a. 0ℚ ≤ℚ a) (sym (abs_below x p)) (<ℚ-le 0ℚ (neg_ℚ x) (below_turned x p)))
    (λ e. subst (λ a. 0ℚ ≤ℚ a) (sym (abs_above x (subst (λ a. 0ℚ ≤ℚ a) (sym e) (≤ℚ_refl 0ℚ)) ∙ e)) (≤ℚ_refl 0ℚ))

pub abs_positive : (x : ℚ) → ¬ (x ≡ 0ℚ) → 0ℚ <ℚ abs_ℚ x
abs_positive x n =
    by_sign x
    (λ p. subst (λ a. 0ℚ <ℚ a) (sym (abs_above x (<ℚ-le 0ℚ x p))) p)
    (λ p. subst (λ a. 0ℚ <ℚ a) (sym (abs_below x p)) (below_turned x p))
    (λ e. absurd (n e))
