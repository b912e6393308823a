-- No entry is put, one entry more, and all.
use Rattle.lp_tableau.proofs.FormColumns.{none_put, entry_inside, more_put, all_put}
use Rattle.lp_tableau.proofs.Done.{row_inside, column_inside}
use Rattle.lp_tableau.proofs.coefficients.put_column.Goals as goal

pub loop-t-init : goal.loop-t-init
loop-t-init c =
    none_put c.args.form.now c.args.j c.entries-entries.result.now c.args.grid.now c.requires.column c.requires.held

pub set-requires-clause-row : goal.set-requires-clause-row
set-requires-clause-row c =
    let i =
    entry_inside c.args.form.now c.args.j c.entries-entries.result.now c.loop-t.t c.index-entries-t.result
    c.index-entries-t.result c.entries-entries.ensures.kept c.loop-t-test.true c.loop-t.auto.t in
    row_inside _ _ _ _ c.loop-t.invariant.shape i

pub set-requires-clause-column : goal.set-requires-clause-column
set-requires-clause-column c =
    let i =
    entry_inside c.args.form.now c.args.j c.entries-entries.result.now c.loop-t.t c.index-entries-t.result
    c.index-entries-t.result c.entries-entries.ensures.kept c.loop-t-test.true c.loop-t.auto.t in
    column_inside _ _ _ _ _ c.loop-t.invariant.shape i c.requires.column

pub loop-t-preserved : goal.loop-t-preserved
loop-t-preserved c =
    more_put c.args.form.now c.args.j c.entries-entries.result.now c.loop-t.t c.index-entries-t.result
    c.index-entries-t-in-loop-t.result c.entries-entries.ensures.kept c.loop-t-test.true c.loop-t.auto.t
    _ _ c.requires.column c.loop-t.invariant c.set.ensures

pub returns : goal.returns
returns c =
    all_put c.args.form.now c.args.j c.entries-entries.result.now c.loop-t.t _ c.entries-entries.ensures.value
    c.loop-t-test.false c.loop-t.invariant
