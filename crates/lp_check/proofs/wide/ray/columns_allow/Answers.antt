use Rattle.spec_check.proofs.StoppedRuns.{each_stops}
use Rattle.lp_check.proofs.Gives.{fails}
use Rattle.lp_check.proofs.wide.ray.columns_allow.Goals as goal

pub returns-then-not-column_allows : goal.returns-then-not-column_allows
returns-then-not-column_allows c =
    rw (← c.cols-j-end.ensures.value)
    (each_stops _ _ _ _ c.loop-j-test.true c.loop-j.invariant
    (fails 3 _ _ c.column_allows.ensures c.if-not-column_allows.true))
