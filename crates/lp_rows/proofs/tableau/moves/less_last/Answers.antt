use Rattle.std.proofs.Common.{refl}
use Rattle.lp_natural.specs.Whole.{whole}
use Rattle.lp_rows.proofs.Lasts.{less_is}
use Rattle.lp_rows.proofs.tableau.moves.less_last.Goals as goal

pub returns-in-Some : goal.returns-in-Some
returns-in-Some g c h =
    less_is g.T.Words.value c.args.n c.args.row.now _ c.index.result.now c.in-Some.last (g.T.Words.value c.one.result)
    (whole c.args.a.negative (g.T.Words.value c.args.a.size)) (whole c.args.b.negative (g.T.Words.value c.args.b.size))
    c.requires refl refl c.index.ensures c.one.ensures c.in-Some.ensures
