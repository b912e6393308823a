use Rattle.lp_rows.proofs.Read.{by_end}
use Rattle.lp_rows.proofs.tableau.ends.certificate.Goals as goal

pub returns-in-None-clause-value : goal.returns-in-None-clause-value
returns-in-None-clause-value g c t reached s =
    by_end g.N.Listed.of t _ _ c.infeasible.result c.in-None.is (c.infeasible.ensures.value t s)

pub returns-in-Some-clause-value : goal.returns-in-Some-clause-value
returns-in-Some-clause-value g c t reached s =
    by_end g.N.Listed.of t _ _ c.certificate_at.result c.in-Some.is (c.certificate_at.ensures.value t s)
