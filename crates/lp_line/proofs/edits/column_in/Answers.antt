use Rattle.std.proofs.Common.{ap, sym, ◌∙◌, Err}
use Rattle.std.proofs.lemmas.Result.{err_from_is_err_and}
use Rattle.lp_line.proofs.EditStops.{gives_fault}
use Rattle.lp_line.proofs.NewColumn.{odd_column, cost_fault, pairs_fault, column_read}
use Rattle.lp_line.proofs.edits.column_in.Goals as goal

pub returns-then-pairs-ne0 : goal.returns-then-pairs-ne0
returns-then-pairs-ne0 c = odd_column _ _ _ c.if-pairs-ne0.true

pub returns-in_err-cost : goal.returns-in_err-cost
returns-in_err-cost c =
    let p = err_from_is_err_and c.from_residual.result c.from_residual.ensures.1 in
    gives_fault _ c.from_residual.result p.0 c.in_err-cost.field-0.0 p.1 p.2
    (cost_fault _ _ _ c.if-pairs-ne0.false _ (sym c.in_err-cost.ensures))

pub returns-in_err-pairs : goal.returns-in_err-pairs
returns-in_err-pairs c =
    let p = err_from_is_err_and c.from_residual-in_err-pairs.result c.from_residual-in_err-pairs.ensures.1 in
    pairs_fault _ _ _ c.if-pairs-ne0.false _ (sym c.in_ok-cost.ensures) _ c.from_residual-in_err-pairs.result
    (p.1 ∙ ap Err p.2) c.in_err-pairs.ensures

pub returns : goal.returns
returns c = column_read _ _ _ c.if-pairs-ne0.false _ c.in_ok-cost.ensures _ c.in_ok-pairs.ensures _ c.in_ok-name.ensures
