-- A stop in the rows, and the tableau of their columns.
use Rattle.std.proofs.Common.{◌+◌, ◌∙◌, Some, sym, ap, subst, length}
use Rattle.std.proofs.lemmas.Result.{err_from_is_err_and}
use Rattle.spec_exact.specs.Narrow.{number_limit}
use Rattle.lp_tableau.specs.Based.{AreInside}
use Rattle.lp_tableau.proofs.Based.{written_back, lent_is, rows_stop, based}
use Rattle.lp_tableau.proofs.basis.solved.Goals as goal

pub returns-in_err-eliminate-clause-err : goal.returns-in_err-eliminate-clause-err
returns-in_err-eliminate-clause-err c =
    let p = err_from_is_err_and c.from_residual-in_err-eliminate.result c.from_residual-in_err-eliminate.ensures.1 in
    rw (p.1, p.2) (rows_stop (Some number_limit) c.args.form.now c.args.basis.now _ c.in_err-eliminate.ensures.solved)

pub returns-clause-ok : goal.returns-clause-ok
returns-clause-ok c =
    based (Some number_limit) c.args.form.now c.args.basis.now _ c.in_ok-tab.tab c.in_ok-eliminate.ensures.solved
    (lent_is c.args.form.now c.args.basis.now c.eliminate.new.grid c.in_ok-tab.tab _ c.eliminate.new.basic _ _ _ _
    c.in_ok-tab.ensures c.deref.ensures.value (c.deref_mut.ensures.value ∙ c.in_ok-basic.ensures)
    c.deref_mut.ensures.len c.in_ok-eliminate.ensures.places)

pub eliminate-requires-clause-rows : goal.eliminate-requires-clause-rows
eliminate-requires-clause-rows c = c.in_ok-grid.ensures

pub eliminate-requires-clause-places : goal.eliminate-requires-clause-places
eliminate-requires-clause-places c = c.deref_mut.ensures.value ∙ c.in_ok-basic.ensures

pub begun-requires-clause-shape : goal.begun-requires-clause-shape
begun-requires-clause-shape c = c.in_ok-eliminate.ensures.shape

pub begun-requires-clause-places : goal.begun-requires-clause-places
begun-requires-clause-places c =
    ap length (written_back _ c.eliminate.new.basic _ _ _ _ c.deref.ensures.value
    (c.deref_mut.ensures.value ∙ c.in_ok-basic.ensures) c.deref_mut.ensures.len c.in_ok-eliminate.ensures.places)
    ∙ c.in_ok-eliminate.ensures.places

pub begun-requires-clause-inside : goal.begun-requires-clause-inside
begun-requires-clause-inside c =
    subst (AreInside (c.args.form.now.cols + c.args.form.now.rows + c.args.form.now.rows))
    (sym (written_back _ c.eliminate.new.basic _ _ _ _ c.deref.ensures.value
    (c.deref_mut.ensures.value ∙ c.in_ok-basic.ensures) c.deref_mut.ensures.len c.in_ok-eliminate.ensures.places))
    c.in_ok-eliminate.ensures.inside
