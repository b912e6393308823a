use Rattle.std.proofs.Common.{sym, ap, ◌∙◌}
use Rattle.spec_check.proofs.StoppedRuns.{each_stops}
use Rattle.lp_check.specs.Sums as given
use Rattle.lp_check.proofs.Gives.{fails}
use Rattle.lp_check.proofs.wide.ray.rows_allow.Goals as goal

pub returns-then-not-branch : goal.returns-then-not-branch
returns-then-not-branch c =
    rw (← c.rows-i-end.ensures.value)
    (each_stops _ _ _ _ c.loop-i-test.true c.loop-i.invariant
    (ap (given.row_allows c.args.model.now c.loop-i.i) (sym c.part.ensures)
    ∙ fails 4 _ _ c.in_ok-row_allows.ensures c.if-not-branch.true))
