-- One row more, and all.
use Rattle.std.proofs.Common.{[]}
use Rattle.lp_tableau.specs.Begun.{is_below}
use Rattle.lp_tableau.proofs.GrowingLists.{more_mapped, all_mapped}
use Rattle.lp_tableau.proofs.start.turns.Goals as goal

pub loop-start-preserved : goal.loop-start-preserved
loop-start-preserved c =
    more_mapped [] _ _ is_below c.args.starts.now c.loop-start.start-index _ _ c.loop-start-test.true
    c.start-item.is c.loop-start.invariant c.is_negative.ensures c.in_ok-push.ensures.items

pub returns : goal.returns
returns c =
    all_mapped [] _ is_below c.args.starts.now c.loop-start.start-index c.loop-start-test.false c.loop-start.invariant
