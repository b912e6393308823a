use Rattle.lp_rows.proofs.Read.{moved_here, moved_elsewhere}
use Rattle.lp_rows.proofs.tableau.ends.move_by.Goals as goal

pub returns-then-index-k : goal.returns-then-index-k
returns-then-index-k g c t s h =
    moved_here g.T.Words.value c.args.tab.now t c.args.i c.args.e.col c.args.k c.index.result.now c.args.e.direction _ s
    c.requires.whole c.requires.place c.index.ensures c.if-index-k.true (c.basic_move.ensures t s)

pub returns-else-index-k : goal.returns-else-index-k
returns-else-index-k g c t s h =
    moved_elsewhere g.T.Words.value c.args.tab.now t c.args.i c.args.e.col c.args.k c.index.result.now c.args.e.direction _ s
    c.requires.whole c.requires.place c.index.ensures c.if-index-k.false h
