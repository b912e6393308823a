-- One artificial more, and all.
use Rattle.std.proofs.Common.{◌+◌, replicate}
use Rattle.spec_exact.specs.Fraction.{0ℚ}
use Rattle.spec_simplex.specs.Start.{first_cost}
use Rattle.lp_tableau.proofs.GrowingLists.{more_mapped, all_mapped}
use Rattle.lp_tableau.proofs.start.first_costs.Goals as goal

pub loop-start-preserved : goal.loop-start-preserved
loop-start-preserved c =
    more_mapped (replicate (c.args.form.now.cols + c.args.form.now.rows) 0ℚ) _ _
    first_cost c.args.starts.now
    c.loop-start.start-index _ _ c.loop-start-test.true
    c.start-item.is c.loop-start.invariant c.artificial_cost.ensures c.in_ok-push.ensures.items

pub returns : goal.returns
returns c =
    all_mapped (replicate (c.args.form.now.cols + c.args.form.now.rows) 0ℚ) _
    first_cost c.args.starts.now
    c.loop-start.start-index c.loop-start-test.false c.loop-start.invariant
