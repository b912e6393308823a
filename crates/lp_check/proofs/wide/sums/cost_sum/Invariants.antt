-- The sum over the columns so far.
use Rattle.std.proofs.Common.{◌≡◌}
use Rattle.spec_exact.specs.Fraction.{◌*ℚ◌}
use Rattle.spec_exact.specs.Sums.{sum_below}
use Rattle.spec_model.specs.Model.{cost, part}
use Rattle.lp_check.proofs.wide.sums.cost_sum.Given as goal

-- the sum is that of cost times number over the first j columns
abbrev pub invariant-loop-j : goal.invariant-loop-j
invariant-loop-j l = l.sum ≡ sum_below l.j (λ k. cost l.model k *ℚ part l.numbers k)
