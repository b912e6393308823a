-- One column more, one row more, and a refused row, which stops the run.
use Rattle.std.proofs.Common.{◌<◌, length, sym, ap, arith}
use Rattle.std.proofs.lemmas.Result.{err_from_is_err_and}
use Rattle.spec_exact.proofs.RunsInOrder.{list_stops}
use Rattle.lp_form.proofs.MadeForms.{column_more, row_more}
use Rattle.lp_form.proofs.standard.fill_bounds.Goals as goal

pub returns-in_err-least-clause-err : goal.returns-in_err-least-clause-err
returns-in_err-least-clause-err c =
    let p = err_from_is_err_and c.from_residual-in_err-least.result c.from_residual-in_err-least.ensures.1 in
    let step = rw c.row.ensures at c.in_err-least.ensures in
    rw (p.1, p.2, ← c.rows-i-end.ensures.value)
    (list_stops _ _ _ _ _ c.loop-i-test.true c.loop-i.invariant.taken (sym step))

pub loop-i-preserved : goal.loop-i-preserved
loop-i-preserved c =
    let step = rw c.row.ensures at c.in_ok-least.ensures in
    rw (c.in_ok-push_bounds-2.ensures.lower, c.in_ok-push_bounds-2.ensures.upper)
    (row_more c.args.model.now _ _ c.loop-i.i c.in_ok-least.least c.in_ok-least.most c.loop-i.invariant (sym step))

pub loop-j-preserved : goal.loop-j-preserved
loop-j-preserved c =
    let m = c.args.model.now in
    let i = c.loop-j.invariant in
    let l : c.loop-j.j < length m.columns = omega (arith, c.loop-j-test.true, c.cols-j-end.ensures.value) in
    record {
      lower =
          column_more (λ c. c.lower) m.columns _ _ _ _ c.in_ok-push_bounds.ensures.lower i.lower
          (ap (λ c. c.lower) c.col-column.ensures) l;
      upper =
          column_more (λ c. c.upper) m.columns _ _ _ _ c.in_ok-push_bounds.ensures.upper i.upper
          (ap (λ c. c.upper) c.col-column.ensures) l;
    }
