-- A clash in a column stops the run.
use Rattle.std.proofs.Common.{sym}
use Rattle.std.proofs.lemmas.Result.{err_from_is_err_and}
use Rattle.spec_exact.proofs.RunsInOrder.{steps_stop}
use Rattle.lp_form.proofs.standard.first_clash.Goals as goal

pub returns-in_err-clash : goal.returns-in_err-clash
returns-in_err-clash c =
    let p = err_from_is_err_and c.from_residual.result c.from_residual.ensures.1 in
    let step = rw c.col-column.ensures at c.in_err-clash.ensures in
    rw (p.1, p.2, ← c.cols-j-end.ensures.value)
    (sym (steps_stop _ _ _ _ _ _ c.loop-j-test.true c.loop-j.invariant (sym step)))
