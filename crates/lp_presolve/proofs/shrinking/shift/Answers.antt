-- A refusal in a row stops the run.
use Rattle.std.proofs.Common.{◌<◌, subst}
use Rattle.std.proofs.lemmas.Result.{err_from_is_err_and}
use Rattle.lp_presolve.proofs.Shifts.{term_is, shift_stops}
use Rattle.lp_presolve.proofs.shrinking.shift.Goals as goal

pub returns-in_err-rhs-clause-err : goal.returns-in_err-rhs-clause-err
returns-in_err-rhs-clause-err c =
    let p = err_from_is_err_and c.from_residual.result c.from_residual.ensures.1 in
    rw (p.1, p.2)
    (shift_stops c.args.model.now c.loop-i.model c.args.j c.loop-i.i c.args.value _
    (subst (λ n. c.loop-i.i < n) c.rows-i-end.ensures.value c.loop-i-test.true) c.loop-i.invariant.run
    (term_is c.args.model.now c.loop-i.model c.args.j c.loop-i.i c.args.value _ _ _ _ c.loop-i.invariant.behind
    c.entry.ensures c.row.ensures c.less_product.ensures c.in_err-rhs.was))
