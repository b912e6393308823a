use Rattle.lp_natural.specs.Whole.{whole}
use Rattle.lp_rows.proofs.RatioAtPosition.{between}
use Rattle.lp_rows.proofs.tableau.ratio.stop_between.Goals as goal

pub returns-in-Some-clause-value : goal.returns-in-Some-clause-value
returns-in-Some-clause-value g c d p =
    between (whole c.args.upper.negative (g.T.Words.value c.args.upper.size))
    (whole c.args.lower.negative (g.T.Words.value c.args.lower.size))
    (whole c.in-Some.gap.negative (g.T.Words.value c.in-Some.gap.size)) d (g.T.Words.value c.one.result) c.args.e.col
    _ c.other_bound.result p c.one.ensures c.in-Some.ensures c.other_bound.ensures
