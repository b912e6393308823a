-- A refusal in the limits, a clash, and the form.
use Rattle.std.proofs.Common.{sym, ◌∙◌, arith}
use Rattle.std.proofs.lemmas.Result.{err_from_is_err_and}
use Rattle.spec_exact.proofs.RunsInOrder.{length-list_run}
use Rattle.lp_form.proofs.MadeForms.{parts_are, is_form, limits_stop, clash_is, form_is}
use Rattle.lp_form.proofs.standard.large_form.Goals as goal

pub returns-in_err-fill_bounds-clause-err : goal.returns-in_err-fill_bounds-clause-err
returns-in_err-fill_bounds-clause-err c =
    let p = err_from_is_err_and c.from_residual.result c.from_residual.ensures.1 in
    rw (p.1, p.2) (limits_stop _ _ _ c.in_err-fill_bounds.ensures.err)

pub returns-in-Err-clause-err : goal.returns-in-Err-clause-err
returns-in-Err-clause-err c =
    rw c.stop_of.ensures
    (clash_is _ _ _ c.in_ok-fill_bounds.ensures.ok.taken _ (sym c.first_clash.ensures ∙ c.in-Err.is))

pub new-requires : goal.new-requires
new-requires c =
    let bounds = c.in_ok-fill_bounds.ensures.ok in
    is_form c.args.model.now bounds.limits _ _ _ _ _ _ c.rows.ensures.value c.cols.ensures.value
    c.in_ok-entries.ensures.value bounds.lower_is bounds.upper_is c.in_ok-cost.ensures
    (length-list_run _ _ _ bounds.taken) c.rows.ensures.bound c.cols.ensures.bound c.in_ok-entries.ensures.kept

pub returns-clause-ok : goal.returns-clause-ok
returns-clause-ok c =
    let bounds = c.in_ok-fill_bounds.ensures.ok in
    form_is _ _ _ bounds.taken _ (sym c.first_clash.ensures ∙ c.in_default.is)
    (c.new.ensures.value
    ∙ parts_are c.args.model.now bounds.limits _ _ _ _ _ _ c.rows.ensures.value c.cols.ensures.value
    c.in_ok-entries.ensures.value bounds.lower_is bounds.upper_is c.in_ok-cost.ensures)
