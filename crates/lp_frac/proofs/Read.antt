-- What the code reads of a fraction.
use Rattle.std.proofs.Common.{◌≡◌, ◌<◌, ℕ, ℤ, pos, negsuc, SFits, to_z, of_z, to_z-of_z, ap, ◌∙◌, sym, subst, arith}
use Rattle.std.proofs.Common.{◌≤◌, unsigned_abs}
use mir.Syntax.{w128}
use Rattle.spec_exact.specs.Fraction.{ℚ, 0ℚ}
use Rattle.spec_exact.specs.Laws.{IsWithin}
use Rattle.spec_exact.proofs.Field.{zero_from_num}
use Rattle.spec_exact.specs.Narrow.{number_limit}
use Rattle.lp_frac.specs.Steps.{AreParts}

-- a whole number within the limit fits 128 bits with a sign
fits : (num : ℤ) → unsigned_abs num ≤ number_limit → SFits w128 num
fits (pos n) h = let k : n < 170141183460469231731687303715884105728 = omega (arith, h) in record { sfits = k }
fits (negsuc n) h = let k : n < 170141183460469231731687303715884105728 = omega (arith, h) in record { sfits = k }

module _ {num : ℤ} {den : ℕ} {v : ℚ} (h : AreParts num den v) where
  -- the numerator that the code reads of a fraction within the limit is the fraction's own
  pub num_read : to_z w128 (of_z w128 num) ≡ v.num
  num_read = to_z-of_z (fits num h.num_size) ∙ h.num_is

  -- where the bits of the numerator that the code reads are 0, the fraction is 0
  pub zero_read : of_z w128 num ≡ 0 → v ≡ 0ℚ
  zero_read e = zero_from_num v (sym num_read ∙ ap (to_z w128) e)

  -- a fraction whose parts the code holds has a numerator and a denominator within the limit
  pub within_read : IsWithin number_limit v
  within_read =
      record {
        num_fits = subst (λ (z : ℤ). unsigned_abs z ≤ number_limit) h.num_is h.num_size;
        den_fits = subst (λ n. n ≤ number_limit) h.den_is h.den_size;
      }
