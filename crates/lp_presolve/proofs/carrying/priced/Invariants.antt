-- The loop over the rows.
use Rattle.std.proofs.Common.{◌≡◌, Some, Ok}
use Rattle.spec_exact.specs.Fraction.{0ℚ}
use Rattle.spec_exact.specs.Run.{plus_product, steps}
use Rattle.spec_exact.specs.Narrow.{number_limit}
use Rattle.spec_model.specs.Model.{entry_of, part}
use Rattle.lp_presolve.proofs.carrying.priced.Given as goal

-- the sum so far
abbrev pub invariant-loop-i : goal.invariant-loop-i
invariant-loop-i l =
    steps l.i (λ i s. plus_product (Some number_limit) (part l.y i) (entry_of l.step.entries i) s) 0ℚ ≡ Ok l.sum
