use Rattle.lp_natural.specs.Whole.{whole}
use Rattle.lp_rows.proofs.Lasts.{less_whole}
use Rattle.lp_rows.proofs.tableau.moves.take_off.Goals as goal

pub returns : goal.returns
returns g c h =
    less_whole g.T.Words.value c.args.n c.args.row.now c.less_last.new.row
    (whole c.args.by.negative (g.T.Words.value c.args.by.size)) c.requires (c.less_last.ensures h)
