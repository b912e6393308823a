-- The loop over the rows.
use Rattle.std.proofs.Common.{◌≡◌, Some, Ok}
use Rattle.spec_exact.specs.Fraction.{0ℚ}
use Rattle.spec_model.specs.Model.{coefficient, part}
use Rattle.spec_exact.specs.Run.{steps}
use Rattle.spec_exact.specs.Narrow.{number_limit}
use Rattle.spec_check.specs.Run as run
use Rattle.lp_check.proofs.farkas.priced.Given as goal

-- the sum is that of multiplier times coefficient in column j over the first i rows
abbrev pub invariant-loop-i : goal.invariant-loop-i
invariant-loop-i l =
    steps l.i (λ k s. run.plus_product (Some number_limit) (part l.y k) (coefficient l.model k l.j) s) 0ℚ ≡ Ok l.sum
