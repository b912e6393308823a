use Rattle.lp_rows.specs.Ratio.{bound_of}
use Rattle.lp_rows.proofs.RatioAtPosition.{stays}
use Rattle.lp_rows.proofs.tableau.ratio.stop_at.Goals as goal

pub returns-then-is_zero-clause-value : goal.returns-then-is_zero-clause-value
returns-then-is_zero-clause-value g c d p best =
    stays c.args.way c.args.at.position c.args.at.col c.args.at.entry.negative (g.T.Words.value c.args.at.entry.size)
    (g.T.Words.value c.args.at.denominator) (bound_of g.T.Words.value d c.args.at.lower)
    (bound_of g.T.Words.value d c.args.at.upper) _ best (c.is_zero.ensures.0 c.if-is_zero.true) c.requires
