-- The numbers of a list by their places.
use Rattle.std.proofs.Common.{◌≡◌, ℕ, zero, suc, refl}
use Rattle.std.specs.Prelude.{replicate}
use Rattle.spec_exact.specs.Fraction.{0ℚ}
use Rattle.spec_model.specs.Model.{part}

-- in a list of n zeros the number at any place is 0
pub part_zeros : (n j : ℕ) → part (replicate n 0ℚ) j ≡ 0ℚ
part_zeros zero j = refl
part_zeros (suc n) zero = refl
part_zeros (suc n) (suc j) = part_zeros n j
