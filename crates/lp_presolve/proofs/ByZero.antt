-- A quotient by 0.
use Rattle.std.proofs.Common.{◌≡◌, Some, Ok, sym, ap, subst}
use Rattle.spec_exact.specs.Fraction.{ℚ, 0ℚ, inverse, turned, over, whole}
use Rattle.spec_exact.specs.Answer.{told}
use Rattle.spec_exact.specs.Laws.{IsWithin}
use Rattle.spec_exact.specs.Limit.{div}
use Rattle.spec_exact.specs.declared.past.Op.TheVariants.{Div}
use Rattle.spec_exact.specs.Run.{quotient_run}
use Rattle.spec_exact.proofs.Zero.{mul_right}
use Rattle.spec_exact.specs.Narrow.{number_limit}

-- the quotient of a number of at most 127 bits by 0 is 0, and is not refused
pub quotient_by_zero : (d a : ℚ) → IsWithin number_limit d → a ≡ 0ℚ → quotient_run (Some number_limit) d a ≡ Ok 0ℚ
unfolding div inverse turned over whole
quotient_by_zero d a w e =
    subst (λ a. quotient_run (Some number_limit) d a ≡ Ok 0ℚ) (sym e) (ap (told Div d 0ℚ) (mul_right number_limit d w))
