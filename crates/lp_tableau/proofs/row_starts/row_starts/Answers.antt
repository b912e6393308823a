-- A refused row stops the start.
use Rattle.std.proofs.Common.{sym}
use Rattle.std.proofs.lemmas.Result.{err_from_is_err_and}
use Rattle.spec_exact.proofs.RunsInOrder.{list_stops}
use Rattle.lp_tableau.proofs.row_starts.row_starts.Goals as goal

pub returns-in_err-row_start-clause-err : goal.returns-in_err-row_start-clause-err
returns-in_err-row_start-clause-err c =
    let p = err_from_is_err_and c.from_residual.result c.from_residual.ensures.1 in
    rw (p.1, p.2, ← c.rows-i-end.ensures.value)
    (list_stops _ _ _ _ _ c.loop-i-test.true c.loop-i.invariant (sym c.in_err-row_start.ensures))
