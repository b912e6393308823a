-- The column is put in, or the first fault of its pairs is the answer.
use Rattle.std.proofs.Common.{sym}
use Rattle.std.proofs.lemmas.Result.{err_from_is_err_and}
use Rattle.spec_model.specs.Model.{height}
use Rattle.spec_edit.proofs.NewColumns.{column_of-kept}
use Rattle.lp_model.proofs.NewColumn.{is_good, is_free, pushed, stopped}
use Rattle.lp_model.proofs.edits.add_column.Goals as goal

pub push_col-requires-clause-kept : goal.push_col-requires-clause-kept
push_col-requires-clause-kept c =
    let named = is_good c.args.name _ _ c.as_slice.ensures c.is_name.ensures c.if-not-is_name.false in
    rw c.zero.ensures (column_of-kept (height c.args.model.now) c.args.name
    c.args.cost c.in_ok-entries.entries named c.in_ok-entries.ensures.kept)

pub returns : goal.returns
returns c =
    let named = is_good c.args.name _ _ c.as_slice.ensures c.is_name.ensures c.if-not-is_name.false in
    let free = is_free c.args.model.now c.args.name _ _ _ c.as_slice-2.ensures c.col_of.ensures.value
    c.is_some.ensures c.if-is_some.false in
    pushed c.args.model.now c.args.name c.args.cost c.args.pairs.now named free
    (rw (sym c.cols.ensures.value) c.if-cols-ge-MAX_COLUMNS.false)
    c.in_ok-entries.entries c.zero.result c.push_col.new.self c.in_ok-entries.ensures.answer c.zero.ensures
    c.in_ok-push_col.ensures.ok

pub returns-in_err-entries : goal.returns-in_err-entries
returns-in_err-entries c =
    let named = is_good c.args.name _ _ c.as_slice.ensures c.is_name.ensures c.if-not-is_name.false in
    let free = is_free c.args.model.now c.args.name _ _ _ c.as_slice-2.ensures c.col_of.ensures.value
    c.is_some.ensures c.if-is_some.false in
    let p = err_from_is_err_and c.from_residual.result c.from_residual.ensures.1 in
    rw (p.1, p.2) (stopped c.args.model.now c.args.name c.args.cost c.args.pairs.now named free
    (rw (sym c.cols.ensures.value) c.if-cols-ge-MAX_COLUMNS.false)
    c.in_err-entries.field-0.0 c.in_err-entries.ensures.answer)
