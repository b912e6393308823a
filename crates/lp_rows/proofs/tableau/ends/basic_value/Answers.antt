use Rattle.lp_rows.proofs.Read.{last_is}
use Rattle.lp_rows.proofs.tableau.ends.basic_value.Goals as goal

pub returns : goal.returns
returns g c =
    last_is g.T.Words.value c.args.tab.now c.args.i _ c.index.result.now c.last_number.result c.requires.inside
    c.index.ensures c.width-last.ensures c.last_number.ensures
