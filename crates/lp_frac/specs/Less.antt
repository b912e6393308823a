-- A product taken off a number.
use Rattle.std.specs.Prelude.{◌≡◌, ◌<◌, ◌≤◌, unsigned_abs, ℕ, ◌*◌, ℤ, pos, ◌-ℤ◌, ◌*ℤ◌}
use Rattle.spec_exact.specs.Fraction.{ℚ}

-- the numerator of e / f - (a / b) (c / d) over the product b d f of the three denominators, not in lowest terms
abbrev pub less_num : ℤ → ℕ → ℤ → ℕ → ℤ → ℕ → ℤ
less_num a b c d e f = e *ℤ pos (b * d) -ℤ a *ℤ c *ℤ pos f

-- the product of the denominators b, d and f, over which e / f - (a / b) (c / d) has the numerator `less_num`
abbrev pub less_den : ℕ → ℕ → ℕ → ℕ
less_den b d f = b * d * f

-- num and den are the numerator and the denominator of v; num fits 32 bits with a sign, and den 32 bits without one
pub record IsSmall (num : ℤ) (den : ℕ) (v : ℚ) : Type 0 where
  pub num_is : num ≡ v.num
  pub den_is : den ≡ v.den
  pub positive : 0 < den
  pub num_size : unsigned_abs num ≤ 2147483648
  pub den_size : den ≤ 4294967295

-- y is the product n q, and at most 2 ^ 62 in size
pub record IsTerm (y n : ℤ) (q : ℕ) : Type 0 where
  pub value : y ≡ n *ℤ pos q
  pub size : unsigned_abs y ≤ 4611686018427387904

-- these are the numerator and the denominator of v, and they fit a word of 64 bits with a sign
pub record IsShort (num : ℤ) (den : ℕ) (v : ℚ) : Type 0 where
  pub num_is : num ≡ v.num
  pub den_is : den ≡ v.den
  pub positive : 0 < den
  pub num_size : unsigned_abs num ≤ 9223372036854775808
  pub den_size : den ≤ 9223372036854775807

-- these are the products of the numerators and of the denominators of v and w, unreduced, and they fit a word of 64
-- bits with a sign
pub record IsShortProduct (num : ℤ) (den : ℕ) (v w : ℚ) : Type 0 where
  pub num_is : num ≡ v.num *ℤ w.num
  pub den_is : den ≡ v.den * w.den
  pub positive : 0 < den
  pub num_size : unsigned_abs num ≤ 9223372036854775808
  pub den_size : den ≤ 9223372036854775807

-- p and q are factors that make the denominators f and k the same: p f is q k. They are at most k and f, and p is above
-- 0
pub record IsScaled (p q k f : ℕ) : Type 0 where
  pub positive : 0 < p
  pub same : p * f ≡ q * k
  pub p_size : p ≤ k
  pub q_size : q ≤ f

-- x is e p - n q, and less than 2 ^ 63 in size
pub record IsNumerator (x e : ℤ) (p : ℕ) (n : ℤ) (q : ℕ) : Type 0 where
  pub value : x ≡ e *ℤ pos p -ℤ n *ℤ pos q
  pub size : unsigned_abs x ≤ 9223372036854775807

-- k is the product b d, and less than 2 ^ 63
pub record IsDenominator (k b d : ℕ) : Type 0 where
  pub value : k ≡ b * d
  pub size : k ≤ 9223372036854775807
