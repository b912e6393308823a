use Rattle.std.proofs.Common.{ap, Some}
use Rattle.lp_rows.proofs.Read.{by_end}
use Rattle.lp_rows.proofs.tableau.ends.certificate_at.Goals as goal

pub returns-in-Optimal-clause-value : goal.returns-in-Optimal-clause-value
returns-in-Optimal-clause-value g c t s =
    by_end g.N.Listed.of t _ _ c.optimal.result (ap Some c.in-Optimal.is) (c.optimal.ensures.value t s)

pub returns-in-Unbounded-clause-value : goal.returns-in-Unbounded-clause-value
returns-in-Unbounded-clause-value g c t s =
    by_end g.N.Listed.of t _ _ c.unbounded.result (ap Some c.in-Unbounded.is) (c.unbounded.ensures.value t s)
