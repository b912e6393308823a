-- The value is not below the bound.
use Rattle.lp_natural.specs.Whole.{whole}
use Rattle.lp_row_runs.proofs.PrimalFeasibleStarts.{from_bound}
use Rattle.lp_row_runs.proofs.fit.is_from.Goals as goal

pub returns-in-Equal : goal.returns-in-Equal
returns-in-Equal g c = λ _ d p.
    from_bound g.T.Words.value c.args.lower c.in-Some.lower (whole c.args.value.negative (g.T.Words.value c.args.value.size))
    d (g.T.Words.value c.args.denominator) (g.T.Words.value c.one.result) c.order.result c.in-Some.is p c.requires
    c.one.ensures c.order.ensures c.in-Equal.is
