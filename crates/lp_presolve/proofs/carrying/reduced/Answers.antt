-- A refusal in a row stops the run.
use Rattle.std.proofs.Common.{sym, ◌∙◌}
use Rattle.std.proofs.lemmas.Result.{err_from_is_err_and}
use Rattle.spec_exact.proofs.RunsInOrder.{steps_stop}
use Rattle.lp_presolve.proofs.carrying.reduced.Goals as goal

pub returns-in_err-d : goal.returns-in_err-d
returns-in_err-d c =
    let p = err_from_is_err_and c.from_residual.result c.from_residual.ensures.1 in
    let run = rw (c.part.ensures, c.entry.ensures, c.as_slice.ensures) at c.less_product.ensures in
    rw (p.1, p.2) (sym (steps_stop _ _ _ _ _ _ c.loop-i-test.true c.loop-i.invariant (sym run ∙ c.in_err-d.was)))
