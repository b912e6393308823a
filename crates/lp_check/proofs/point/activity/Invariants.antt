-- The loop over the columns.
use Rattle.std.proofs.Common.{◌≡◌, Some, Ok}
use Rattle.spec_exact.specs.Fraction.{0ℚ}
use Rattle.spec_model.specs.Model.{coefficient, part}
use Rattle.spec_exact.specs.Run.{steps}
use Rattle.spec_exact.specs.Narrow.{number_limit}
use Rattle.spec_check.specs.Run as run
use Rattle.lp_check.proofs.point.activity.Given as goal

-- the sum is that of coefficient in row i times value over the first j columns
abbrev pub invariant-loop-j : goal.invariant-loop-j
invariant-loop-j l =
    steps l.j (λ k s. run.plus_product (Some number_limit) (coefficient l.model l.i k) (part l.x k) s) 0ℚ ≡ Ok l.sum
