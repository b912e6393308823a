use Rattle.std.proofs.Common.{ap}
use Rattle.spec_check.specs.declared.certificate.Certificate.TheVariants.{Infeasible}
use Rattle.lp_rows.proofs.tableau.ends.infeasible.Goals as goal
use Rattle.lp_rows.proofs.SameNumbers.{of_some}

pub returns-in-Some-clause-value : goal.returns-in-Some-clause-value
returns-in-Some-clause-value g c t s =
    ap Infeasible (of_some _ c.in_ok-y.field-0 c.in-Some.y c.in-Some.is (c.in_ok-y.ensures.value t s))
