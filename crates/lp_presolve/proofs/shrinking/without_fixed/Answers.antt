-- The right sides, then the offset, and the column goes.
use Rattle.std.proofs.Common.{Some, ap, ◌∙◌}
use Rattle.std.proofs.lemmas.Result.{err_from_is_err_and}
use Rattle.spec_exact.specs.Narrow.{number_limit}
use Rattle.spec_model.specs.Model.{Model}
use Rattle.spec_edit.specs.Changes.{without_column}
use Rattle.spec_presolve.proofs.After.{shifted_ok}
use Rattle.lp_presolve.proofs.Shifts.{fixed_refused₁, fixed_refused₂, fixed_done, cost_is}
use Rattle.lp_presolve.proofs.shrinking.without_fixed.Goals as goal

pub returns-in_err-shift-clause-err : goal.returns-in_err-shift-clause-err
returns-in_err-shift-clause-err c =
    let p = err_from_is_err_and c.from_residual.result c.from_residual.ensures.1 in
    rw (p.1, p.2) (fixed_refused₁ c.args.model.now c.args.j c.args.value _ c.in_err-shift.ensures.err)

pub returns-in_err-offset-clause-err : goal.returns-in_err-offset-clause-err
returns-in_err-offset-clause-err c =
    let p = err_from_is_err_and c.from_residual-in_err-offset.result c.from_residual-in_err-offset.ensures.1 in
    rw (p.1, p.2)
    (fixed_refused₂ c.args.model.now c.shift.new.model c.args.j c.args.value _ c.in_ok-shift.ensures.ok
    (cost_is c.args.model.now c.args.j c.args.value _ _ _ _ c.col.ensures c.offset-old.ensures c.plus_product.ensures
    c.in_err-offset.was))

pub remove_col-requires : goal.remove_col-requires
remove_col-requires c =
    rw (c.set_offset.ensures)
    (rw ((shifted_ok (Some number_limit) c.args.model.now c.args.j c.args.value c.shift.new.model
    c.in_ok-shift.ensures.ok).columns_are)
    c.requires)

pub returns-clause-ok : goal.returns-clause-ok
returns-clause-ok c =
    fixed_done c.args.model.now c.shift.new.model _ c.args.j c.args.value _ c.in_ok-shift.ensures.ok
    (cost_is c.args.model.now c.args.j c.args.value _ _ _ _ c.col.ensures c.offset-old.ensures c.plus_product.ensures
    c.in_ok-offset.was)
    (c.remove_col.ensures ∙ ap (λ (n : Model). without_column n c.args.j) c.set_offset.ensures)
