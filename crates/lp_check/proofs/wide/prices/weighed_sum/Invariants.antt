-- The sum so far, with what the entries still to come add.
use Rattle.std.proofs.Common.{◌≡◌, length, drop}
use Rattle.spec_exact.specs.Fraction.{◌+ℚ◌, ◌*ℚ◌}
use Rattle.spec_exact.specs.Sums.{sum_below}
use Rattle.spec_model.specs.Model.{entry_of, part}
use Rattle.lp_check.proofs.wide.prices.weighed_sum.Given as goal

-- the sum so far, with the products of the entries still to come, is the sum of coefficient times multiplier over all
-- rows
abbrev pub invariant-loop-entry : goal.invariant-loop-entry
invariant-loop-entry l =
    l.sum +ℚ sum_below (length l.y) (λ i. part l.y i *ℚ entry_of (drop l.entry-index l.entries) i)
    ≡ sum_below (length l.y) (λ i. part l.y i *ℚ entry_of l.entries i)
