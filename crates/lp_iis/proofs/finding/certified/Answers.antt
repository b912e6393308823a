use Rattle.std.proofs.Common.{subst}
use Rattle.spec_iis.specs.Only.{only}
use Rattle.lp_iis.specs.Trials.{IsTried}
use Rattle.lp_iis.proofs.SearchSteps.{certified_all}
use Rattle.lp_iis.proofs.finding.certified.Goals as goal

pub returns-in-Infeasible : goal.returns-in-Infeasible
returns-in-Infeasible c =
    let m = c.args.model.now in
    let tried =
    subst (λ s. IsTried c.args.budget (only m s) c.in_ok-certificate.field-0) c.as_slice.ensures c.in_ok-certificate.ensures in
    certified_all m c.args.sides c.args.points c.in-Infeasible.certificate c.requires.filtered
    (subst (IsTried c.args.budget (only m c.args.sides)) c.in-Infeasible.is tried)
