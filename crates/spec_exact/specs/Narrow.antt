-- The fractions that the server holds: those of 127 bits.
use Rattle.std.specs.Prelude.{ℕ, ◌≤◌, unsigned_abs}
use Rattle.spec_exact.specs.Fraction.{ℚ}

-- the limit of the numbers that the program holds, 2 ^ 127 - 1
abbrev pub number_limit : ℕ
number_limit = 170141183460469231731687303715884105727

-- the absolute value of q's numerator and q's denominator are at most 2 ^ 127 - 1
pub record IsNarrow (q : ℚ) : Type 0 where
  pub top : unsigned_abs q.num ≤ number_limit
  pub bottom : q.den ≤ number_limit
