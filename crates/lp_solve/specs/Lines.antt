-- How many digits the numerator and the denominator of a number of a certificate may have, each.
use Rattle.std.specs.Prelude.{ℕ, ◌^◌}

-- the number 7,680: a numerator and a denominator of at most so many digits each fit a line of a certificate together
unfoldable pub half_line : ℕ
half_line = 7680

-- 10 to the power of `half_line`: a natural number below this has at most `half_line` digits
unfoldable pub line_power : ℕ
line_power = 10 ^ half_line
