-- A row outside its limits stops the run.
use Rattle.std.proofs.Common.{sym}
use Rattle.std.proofs.lemmas.Result.{err_from_is_err_and}
use Rattle.spec_check.proofs.StoppedRuns.{each_stops}
use Rattle.lp_check.proofs.point.rows_within.Goals as goal

pub returns-in_err-row_within : goal.returns-in_err-row_within
returns-in_err-row_within c =
    let p = err_from_is_err_and c.from_residual.result c.from_residual.ensures.1 in
    rw (p.1, p.2, ← c.rows-i-end.ensures.value)
    (sym (each_stops _ _ _ _ c.loop-i-test.true c.loop-i.invariant (sym c.in_err-row_within.ensures)))
