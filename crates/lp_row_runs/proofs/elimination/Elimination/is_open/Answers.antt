-- By the position's column and its entry.
use Rattle.lp_row_runs.proofs.SolvedRows.{taken_read, free_read}
use Rattle.lp_row_runs.proofs.elimination.Elimination.is_open.Goals as goal

pub returns-then-index : goal.returns-then-index
returns-then-index g c = λ f basis k s.
    taken_read g.T.Words.value f basis k c.args.self.now s c.args.i c.args.j c.requires.place c.requires.column
    c.requires.complete.each c.index.result.now c.index.ensures c.if-index.true

pub returns : goal.returns
returns g c = λ f basis k s.
    free_read g.T.Words.value f basis k c.args.self.now s c.args.i c.args.j c.requires.place c.requires.column
    c.requires.complete.each c.index.result.now c.has_none.result c.index.ensures c.if-index.false c.has_none.ensures
