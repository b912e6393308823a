use Rattle.lp_rows.proofs.Gaps.{goes_up, goes_down}
use Rattle.lp_rows.proofs.ratio.gap_for.Goals as goal

pub returns-in-Less : goal.returns-in-Less
returns-in-Less g c =
    goes_up g.T.Words.value c.args.goes (g.T.Words.value c.args.denominator) c.args.lower c.args.upper c.args.value
    c.gap_to.result c.in-Less.is c.requires c.gap_to.ensures

pub returns-in-Greater : goal.returns-in-Greater
returns-in-Greater g c =
    goes_down g.T.Words.value c.args.goes (g.T.Words.value c.args.denominator) c.args.lower c.args.upper c.args.value
    c.gap_to-in-Greater.result c.in-Greater.is c.requires c.gap_to-in-Greater.ensures
