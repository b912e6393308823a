-- A refused column, the one that enters, and none.
use Rattle.std.proofs.Common.{sym, arith}
use Rattle.std.proofs.lemmas.Result.{err_from_is_err_and}
use Rattle.lp_revised.proofs.Entered.{way_refused, enters, none_enters}
use Rattle.lp_revised.proofs.state.Revised.entering.Goals as goal

pub returns-in_err-direction-clause-value : goal.returns-in_err-direction-clause-value
returns-in_err-direction-clause-value c =
    let p = err_from_is_err_and c.from_residual.result c.from_residual.ensures.1 in
    rw (p.1, p.2)
    (sym (way_refused c.args.form.now c.args.costs.now c.args.y.now c.args.self.now.bare c.loop-col.col _
    c.loop-col.invariant (omega (arith, c.loop-col-test.true, c.width-col-end.ensures.value))
    (sym c.in_err-direction.ensures)))

pub returns-in-Some-clause-value : goal.returns-in-Some-clause-value
returns-in-Some-clause-value c =
    let step = rw c.in-Some.is at c.in_ok-direction.ensures in
    sym (enters c.args.form.now c.args.costs.now c.args.y.now c.args.self.now.bare c.loop-col.col c.in-Some.direction
    c.loop-col.invariant (omega (arith, c.loop-col-test.true, c.width-col-end.ensures.value)) (sym step))

pub returns-clause-value : goal.returns-clause-value
returns-clause-value c =
    sym (none_enters c.args.form.now c.args.costs.now c.args.y.now c.args.self.now.bare c.loop-col.col
    c.loop-col.invariant (omega (arith, c.loop-col-test.false, c.loop-col.auto.col-end, c.width-col-end.ensures.value)))
