use Rattle.std.proofs.Common.{sym, ap, ◌∙◌}
use Rattle.spec_check.proofs.StoppedRuns.{each_stops}
use Rattle.lp_check.specs.Sums as given
use Rattle.lp_check.proofs.Gives.{fails}
use Rattle.lp_check.proofs.wide.multipliers.columns_tight.Goals as goal

pub returns-then-not-branch : goal.returns-then-not-branch
returns-then-not-branch c =
    rw (← c.cols-j-end.ensures.value)
    (each_stops _ _ _ _ c.loop-j-test.true c.loop-j.invariant
    (ap (given.column_tight c.args.model.now c.args.x.now c.loop-j.j) (sym c.part.ensures)
    ∙ fails 3 _ _ c.in_ok-column_tight.ensures c.if-not-branch.true))
