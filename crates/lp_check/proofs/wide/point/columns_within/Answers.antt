use Rattle.spec_check.proofs.StoppedRuns.{each_stops}
use Rattle.lp_check.proofs.Gives.{fails}
use Rattle.lp_check.proofs.wide.point.columns_within.Goals as goal

pub returns-then-not-branch : goal.returns-then-not-branch
returns-then-not-branch c =
    rw (← c.cols-j-end.ensures.value)
    (each_stops _ _ _ _ c.loop-j-test.true c.loop-j.invariant
    (fails 1 _ _ c.in_ok-column_within.ensures c.if-not-branch.true))
