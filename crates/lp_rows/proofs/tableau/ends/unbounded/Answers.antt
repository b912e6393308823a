use Rattle.std.proofs.Common.{ap₂}
use Rattle.spec_check.specs.declared.certificate.Certificate.TheVariants.{Unbounded}
use Rattle.lp_rows.proofs.tableau.ends.unbounded.Goals as goal
use Rattle.lp_rows.proofs.SameNumbers.{of_some}

pub returns-in-Some-2-clause-value : goal.returns-in-Some-2-clause-value
returns-in-Some-2-clause-value g c t s =
    ap₂ (λ x y. Unbounded x y) (of_some _ c.in_ok-x.field-0 c.in-Some.x c.in-Some.is (c.in_ok-x.ensures.value t s))
    (of_some _ c.in_ok-r.field-0 c.in-Some-2.r c.in-Some-2.is (c.in_ok-r.ensures.value t s))
