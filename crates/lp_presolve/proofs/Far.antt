-- Numbers that are 10 ^ 20 or more from 0.
use Rattle.std.proofs.Common.{◌≡◌, ℕ, ◌*◌, ◌/◌, ◌<◌, ◌≤◌, ◌^◌, Bool, true, false, not, cond, leb, ℤ, pos, negsuc, neg_ℤ}
use Rattle.std.proofs.Common.{◌*ℤ◌, ◌<ℤ◌, ◌≤ℤ◌, int_lt, unsigned_abs, Some, refl, sym, ap, ◌∙◌, arith}
use Rattle.std.proofs.lemmas.Int.{ints}
use Rattle.std.proofs.lemmas.Bool.{le-leb, lt-leb}
use Rattle.std.proofs.Math.Nat.{le-div_iff_mul-le, div-lt_iff_lt-mul}
use borrow.Author.Differences.{at_most_in, below_in, lt-true, lt-false}
use Rattle.spec_exact.specs.Fraction.{ℚ, neg_ℚ, whole, lt_ℚ}
use Rattle.spec_exact.proofs.FractionSigns.{above_size}
use Rattle.spec_presolve.specs.Choose.{is_far}

-- d is at most k / n, rounded down, just where the fraction k / d is not below the whole number n
far_parts : (k d n : ℕ) → 0 < n → leb d (k / n) ≡ not (int_lt (pos k *ℤ pos 1) (pos n *ℤ pos d))
far_parts k d n z = by (int_lt (pos k *ℤ pos 1) (pos n *ℤ pos d)) refl
  where
    by : (t : Bool) → int_lt (pos k *ℤ pos 1) (pos n *ℤ pos d) ≡ t → leb d (k / n) ≡ not t
    by true e =
        let h : (pos k *ℤ pos 1) <ℤ (pos n *ℤ pos d) = below_in (pos k *ℤ pos 1) (pos n *ℤ pos d) (lt-true (pos k *ℤ pos 1) (pos n *ℤ pos d) e) in
        let l : k < d * n = omega (arith, ints, h) in lt-leb d (k / n) ((div-lt_iff_lt-mul z).1 l)
    by false e =
        let h : (pos n *ℤ pos d) ≤ℤ (pos k *ℤ pos 1) = at_most_in (pos n *ℤ pos d) (pos k *ℤ pos 1) (lt-false (pos k *ℤ pos 1) (pos n *ℤ pos d) e) in
        let l : d * n ≤ k = omega (arith, ints, h) in le-leb d (k / n) ((le-div_iff_mul-le z).1 l)

-- the negative of a negative integer is its absolute value
turned_is : (n : ℤ) → int_lt n (pos 0) ≡ true → neg_ℤ n ≡ pos (unsigned_abs n)
turned_is (pos k) e = let h : pos k <ℤ pos 0 = below_in (pos k) (pos 0) (lt-true (pos k) (pos 0) e) in absurd (omega (arith, ints, h))
turned_is (negsuc k) e = refl

-- a number is far exactly if its numerator's absolute value, divided by 10 ^ 20, is at least its denominator
pub far_size : (q : ℚ) → leb q.den (unsigned_abs q.num / 100000000000000000000) ≡ is_far (Some q)
unfolding lt_ℚ whole neg_ℚ
far_size q = by (int_lt q.num (pos 0)) refl
  where
    by : (t : Bool) → int_lt q.num (pos 0) ≡ t →
        leb q.den (unsigned_abs q.num / 100000000000000000000) ≡ not (lt_ℚ (cond t (neg_ℚ q) q) (whole (pos (10 ^ 20))))
    by true e =
        far_parts (unsigned_abs q.num) q.den 100000000000000000000 (omega arith)
        ∙ ap (λ n. not (int_lt (n *ℤ pos 1) (pos 100000000000000000000 *ℤ pos q.den))) (sym (turned_is q.num e))
    by false e =
        far_parts (unsigned_abs q.num) q.den 100000000000000000000 (omega arith)
        ∙ ap (λ n. not (int_lt (n *ℤ pos 1) (pos 100000000000000000000 *ℤ pos q.den))) (sym (above_size q.num e))
