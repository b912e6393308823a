-- The few that the certificate uses.
use Rattle.std.proofs.Common.{Some, sym, subst}
use Rattle.spec_exact.specs.Narrow.{number_limit}
use Rattle.spec_iis.specs.Only.{only}
use Rattle.spec_iis.specs.Rule.{IsClash}
use Rattle.spec_iis.specs.Found.{ShowsInfeasible}
use Rattle.spec_iis.proofs.Few.{few_clash}
use Rattle.lp_iis.specs.Trials.{IsTried}
use Rattle.lp_iis.proofs.look.look_into.Goals as goal

pub returns-in_ok-few-in-Infeasible : goal.returns-in_ok-few-in-Infeasible
returns-in_ok-few-in-Infeasible c =
    let tried = subst (IsTried c.args.budget c.args.alone.now) c.in-Infeasible.is c.in_ok-certificate.ensures in
    let shown : ShowsInfeasible (only c.args.model.now c.args.sides.now) c.in-Infeasible.certificate =
    subst (λ a. ShowsInfeasible a c.in-Infeasible.certificate) c.requires.alone tried in
    subst (IsClash c.args.model.now c.args.sides.now) (sym c.in_ok-few-in-Infeasible.ensures)
    (few_clash c.args.model.now c.args.sides.now c.requires.present c.in-Infeasible.certificate (Some number_limit)
    shown.fits
    shown.accepted)
