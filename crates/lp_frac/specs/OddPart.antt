-- Numbers without their factors 2.
use Rattle.std.specs.Prelude.{◌≡◌, ◌≤◌, ◌%◌, ◌/◌, ◌^◌, ℕ}
use Rattle.spec_exact.specs.Gcd.{gcd}

-- r is n without its factors 2, of which there are as many as twos says
pub record IsOddPart (n twos r : ℕ) : Type 0 where
  pub value : r ≡ n / 2 ^ twos
  pub odd : r % 2 ≡ 1
  pub size : r ≤ n
  pub common : (a : ℕ) → a % 2 ≡ 1 → gcd a r ≡ gcd a n
