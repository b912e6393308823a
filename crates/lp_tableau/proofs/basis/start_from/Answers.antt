-- A stop in the rows, one after them, and the tableau.
use Rattle.std.proofs.Common.{Some}
use Rattle.std.proofs.lemmas.Result.{err_from_is_err_and}
use Rattle.spec_exact.specs.Narrow.{number_limit}
use Rattle.lp_tableau.proofs.Based.{based_stop, filled_stop, whole}
use Rattle.lp_tableau.proofs.basis.start_from.Goals as goal

pub returns-in_err-tab-clause-err : goal.returns-in_err-tab-clause-err
returns-in_err-tab-clause-err c =
    let p = err_from_is_err_and c.from_residual.result c.from_residual.ensures.1 in
    rw (p.1, p.2) (based_stop (Some number_limit) c.args.form.now c.args.basis.now _ c.in_err-tab.ensures.err)

pub returns-in-Ok-clause-ok : goal.returns-in-Ok-clause-ok
returns-in-Ok-clause-ok c =
    whole (Some number_limit) c.args.form.now c.args.basis.now c.in_ok-tab.tab c.in_ok-tab.ensures.ok _
    c.in-Ok.ensures.ok

pub returns-in-Err-clause-err : goal.returns-in-Err-clause-err
returns-in-Err-clause-err c =
    filled_stop (Some number_limit) c.args.form.now c.args.basis.now c.in_ok-tab.tab c.in_ok-tab.ensures.ok _
    c.in-Err.ensures.err
