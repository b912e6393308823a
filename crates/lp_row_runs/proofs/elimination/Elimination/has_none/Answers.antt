-- The number of the row in this column.
use Rattle.lp_rows.specs.Shows.{width}
use Rattle.lp_row_runs.proofs.SolvedRows.{entry_none}
use Rattle.lp_row_runs.proofs.elimination.Elimination.has_none.Goals as goal

pub returns : goal.returns
returns g c =
    entry_none g.T.Words.value c.args.self.now.tab.rows.items (width c.args.self.now.tab) c.args.i c.args.j
    c.index.result.now c.index-2.result.now c.index-2.result.now c.is_zero.result c.requires.complete.whole.each_row
    c.requires.place c.index.ensures c.index-2.ensures c.requires.column c.is_zero.ensures
