-- Fractions of 127 bits.
--
-- `zero_narrow`: 0 is a fraction of 127 bits.
-- `neg_narrow`: the negative of a fraction of 127 bits has 127 bits.
-- `divided`: a whole number of 127 bits, divided by a natural number, has 127 bits.
-- `over_narrow`: n / d in lowest terms has 127 bits where n and d have.
use Rattle.std.proofs.Common.{◌≤◌, sym, subst, arith, ◌≡◌, ◌/◌, ℕ, ℤ, pos, int_div, unsigned_abs, zero, suc}
use Rattle.std.proofs.Math.Nat.{div-le_self}
use Rattle.spec_exact.specs.Fraction.{ℚ, neg_ℚ, 0ℚ, whole, over}
use Rattle.spec_exact.specs.Narrow.{number_limit, IsNarrow}
use Rattle.spec_exact.specs.Quotients.{abs-neg_ℤ, abs-int_div}
use Rattle.spec_exact.specs.Gcd.{gcd}

pub zero_narrow : IsNarrow 0ℚ
unfolding whole
zero_narrow = record { top = omega arith; bottom = omega arith }

pub neg_narrow : (q : ℚ) → IsNarrow q → IsNarrow (neg_ℚ q)
unfolding neg_ℚ
neg_narrow q h = record { top = subst (λ k. k ≤ number_limit) (sym (abs-neg_ℤ q.num)) h.top; bottom = h.bottom }

-- an exact quotient's size is no greater
pub divided : (z : ℤ) (g : ℕ) → unsigned_abs z ≤ number_limit → unsigned_abs (int_div z (pos g)) ≤ number_limit
divided z g h =
    let size : unsigned_abs (int_div z (pos g)) ≡ unsigned_abs z / g = abs-int_div z g in
    let less : unsigned_abs z / g ≤ unsigned_abs z = div-le_self (unsigned_abs z) g in
    subst (λ k. k ≤ number_limit) (sym size) (omega arith)

-- lowest terms are no wider
pub over_narrow : (n : ℤ) (d : ℕ) → unsigned_abs n ≤ number_limit → d ≤ number_limit → IsNarrow (over n d)
unfolding over
over_narrow n zero h k = zero_narrow
over_narrow n (suc d) h k =
    let low : suc d / gcd (unsigned_abs n) (suc d) ≤ suc d = div-le_self (suc d) (gcd (unsigned_abs n) (suc d)) in
    record { top = divided n (gcd (unsigned_abs n) (suc d)) h; bottom = omega arith }
