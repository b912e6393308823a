-- A refused step stops the sum.
use Rattle.std.proofs.Common.{sym}
use Rattle.std.proofs.lemmas.Result.{err_from_is_err_and}
use Rattle.spec_exact.proofs.RunsInOrder.{steps_stop}
use Rattle.lp_check.proofs.farkas.priced.Goals as goal

pub returns-in_err-sum : goal.returns-in_err-sum
returns-in_err-sum c =
    let p = err_from_is_err_and c.from_residual.result c.from_residual.ensures.1 in
    let step = rw (c.entry.ensures, c.part.ensures) at c.in_err-sum.ensures in
    rw (p.1, p.2, ← c.rows-i-end.ensures.value)
    (sym (steps_stop _ _ _ _ _ _ c.loop-i-test.true c.loop-i.invariant (sym step)))
