-- What an operation gives where a numerator is 0.
use Rattle.std.proofs.Common.{◌≡◌, ℕ, ℤ, of_z, Some, ap, ◌∙◌}
use mir.Syntax.{w128}
use Rattle.spec_exact.specs.Fraction.{ℚ, 0ℚ}
use Rattle.spec_exact.specs.Limit.{add, mul}
use Rattle.spec_exact.proofs.Zero.{add_left, add_right, mul_left, mul_right}
use Rattle.spec_exact.specs.Narrow.{number_limit}
use Rattle.lp_frac.specs.Steps.{AreParts}
use Rattle.lp_frac.proofs.Read.{zero_read, within_read}

module _ {v w : ℚ} {a c : ℤ} {b d : ℕ} (hv : AreParts a b v) (hw : AreParts c d w) where
  -- where the numerator that is read of v is 0, the sum v + w at the limit is w
  pub add_onto_zero : of_z w128 a ≡ 0 → add (Some number_limit) v w ≡ Some w
  add_onto_zero e =
      ap (λ (x : ℚ). add (Some number_limit) x w) (zero_read hv e) ∙ add_left number_limit w (within_read hw)

  -- where the numerator that is read of w is 0, the sum v + w at the limit is v
  pub add_zero : of_z w128 c ≡ 0 → add (Some number_limit) v w ≡ Some v
  add_zero e =
      ap (λ (x : ℚ). add (Some number_limit) v x) (zero_read hw e) ∙ add_right number_limit v (within_read hv)

  -- where the numerator that is read of v is 0, the product v * w at the limit is 0
  pub zero_times : of_z w128 a ≡ 0 → mul (Some number_limit) v w ≡ Some 0ℚ
  zero_times e =
      ap (λ (x : ℚ). mul (Some number_limit) x w) (zero_read hv e) ∙ mul_left number_limit w (within_read hw)

  -- where the numerator that is read of w is 0, the product v * w at the limit is 0
  pub times_zero : of_z w128 c ≡ 0 → mul (Some number_limit) v w ≡ Some 0ℚ
  times_zero e =
      ap (λ (x : ℚ). mul (Some number_limit) v x) (zero_read hw e) ∙ mul_right number_limit v (within_read hv)
