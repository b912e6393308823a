-- The value is not above the bound.
use Rattle.lp_natural.specs.Whole.{whole}
use Rattle.lp_row_runs.proofs.PrimalFeasibleStarts.{up_to_bound}
use Rattle.lp_row_runs.proofs.fit.is_up_to.Goals as goal

pub returns-in-Less : goal.returns-in-Less
returns-in-Less g c = λ _ d p.
    up_to_bound g.T.Words.value c.args.upper c.in-Some.upper (whole c.args.value.negative (g.T.Words.value c.args.value.size))
    d (g.T.Words.value c.args.denominator) (g.T.Words.value c.one.result) c.order.result c.in-Some.is p c.requires
    c.one.ensures c.order.ensures c.in-Less.is
