use Rattle.lp_rows.proofs.Lasts.{clear_already}
use Rattle.lp_rows.proofs.tableau.moves.clear_one.Goals as goal

pub returns-then-is_zero : goal.returns-then-is_zero
returns-then-is_zero g c h =
    clear_already g.T.Words.value c.args.n c.args.j c.args.own.now c.args.row.now c.index.result.now c.requires.row
    c.requires.column c.index.ensures (c.is_zero.ensures.0 c.if-is_zero.true)
