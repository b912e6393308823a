use Rattle.lp_natural.specs.Whole.{whole}
use Rattle.lp_rows.proofs.Lasts.{less_times}
use Rattle.lp_rows.proofs.tableau.moves.move_last.Goals as goal

pub returns : goal.returns
returns g c h =
    less_times g.T.Words.value c.args.n c.args.j c.args.row.now c.less_last.new.row c.index-entry.result.now
    (whole c.args.by.negative (g.T.Words.value c.args.by.size)) c.requires.row c.requires.column c.index-entry.ensures
    (c.less_last.ensures h)
