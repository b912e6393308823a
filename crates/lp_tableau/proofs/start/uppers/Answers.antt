-- One artificial more, and all.
use Rattle.spec_simplex.specs.Start.{artificial_upper}
use Rattle.lp_tableau.proofs.GrowingLists.{more_mapped, all_mapped}
use Rattle.lp_tableau.proofs.start.uppers.Goals as goal

pub loop-start-preserved : goal.loop-start-preserved
loop-start-preserved c =
    more_mapped c.args.form.now.upper _ _ artificial_upper c.args.starts.now
    c.loop-start.start-index _ _ c.loop-start-test.true
    c.start-item.is c.loop-start.invariant c.artificial_upper.ensures c.in_ok-push.ensures.items

pub returns : goal.returns
returns c =
    all_mapped c.args.form.now.upper _ artificial_upper c.args.starts.now
    c.loop-start.start-index c.loop-start-test.false c.loop-start.invariant
