-- The loop over the rows.
use Rattle.std.proofs.Common.{◌≡◌, Some, Ok}
use Rattle.spec_model.specs.Model.{cost, coefficient, part}
use Rattle.spec_check.specs.Checks.{signed}
use Rattle.spec_exact.specs.Run.{steps}
use Rattle.spec_exact.specs.Narrow.{number_limit}
use Rattle.spec_check.specs.Run as run
use Rattle.lp_check.proofs.multipliers.reduced.Given as goal

-- the rest is the signed cost of column j less the products of multiplier and coefficient of the first i rows
abbrev pub invariant-loop-i : goal.invariant-loop-i
invariant-loop-i l =
    steps l.i (λ i d. run.less_product (Some number_limit) (part l.y i) (coefficient l.model i l.j) d)
    (signed l.model.sense (cost l.model l.j))
    ≡ Ok l.rest
