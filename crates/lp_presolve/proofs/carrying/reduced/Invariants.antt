-- The loop over the rows.
use Rattle.std.proofs.Common.{◌≡◌, Some, Ok}
use Rattle.spec_exact.specs.Run.{less_product, steps}
use Rattle.spec_exact.specs.Narrow.{number_limit}
use Rattle.spec_model.specs.Model.{entry_of, part}
use Rattle.spec_check.specs.Checks.{signed}
use Rattle.lp_presolve.proofs.carrying.reduced.Given as goal

-- the sum so far
abbrev pub invariant-loop-i : goal.invariant-loop-i
invariant-loop-i l =
    steps l.i (λ i s. less_product (Some number_limit) (part l.y i) (entry_of l.step.entries i) s) (signed l.step.sense
    l.step.cost) ≡ Ok l.d
