use Rattle.std.proofs.Common.{sym, subst, Some}
use Rattle.std.specs.Prelude.{All}
use Rattle.std.proofs.lemmas.Result.{IfOk-weaker}
use Rattle.spec_exact.specs.Narrow.{number_limit}
use Rattle.spec_model.specs.Truth.{IsInfeasible}
use Rattle.spec_iis.specs.Sides.{IsSide}
use Rattle.spec_iis.specs.Only.{only}
use Rattle.spec_iis.specs.Rule.{IsRead}
use Rattle.spec_iis.specs.Found.{MayFind}
use Rattle.lp_iis.specs.Ways.{IsLeft, MayEnd}
use Rattle.lp_iis.proofs.SearchSteps.{begun_fits, begun_accepted, begun_clash, begun_read, stopped_at, may_find}
use Rattle.lp_iis.proofs.finding.reduced.Goals as goal

pub used-requires-clause-fits : goal.used-requires-clause-fits
used-requires-clause-fits c = begun_fits c.args.budget c.args.model.now c.args.certificate.now c.requires.begun

pub used-requires-clause-accepted : goal.used-requires-clause-accepted
used-requires-clause-accepted c = begun_accepted c.args.budget c.args.model.now c.args.certificate.now c.requires.begun

pub filter-requires-clause-present : goal.filter-requires-clause-present
filter-requires-clause-present c =
    subst (All (IsSide c.args.model.now)) (sym c.in_ok-sides.ensures)
    (begun_clash c.args.budget c.args.model.now c.args.certificate.now c.requires.begun).present

pub filter-requires-clause-infeasible : goal.filter-requires-clause-infeasible
filter-requires-clause-infeasible c =
    subst (λ s. IsInfeasible (only c.args.model.now s)) (sym c.in_ok-sides.ensures)
    (begun_clash c.args.budget c.args.model.now c.args.certificate.now c.requires.begun).infeasible

pub filter-requires-clause-read : goal.filter-requires-clause-read
filter-requires-clause-read c =
    subst (All (IsRead (Some number_limit) c.args.model.now)) (sym c.in_ok-sides.ensures)
    (begun_read c.args.budget c.args.model.now c.args.certificate.now c.requires.begun)

pub returns-in-Kept : goal.returns-in-Kept
returns-in-Kept c =
    let left =
    subst (λ s. IsLeft c.args.budget c.args.model.now s c.in_ok-left.left) c.in_ok-sides.ensures c.in_ok-left.ensures in
    IfOk-weaker c.certified.result (MayEnd c.args.budget c.args.model.now c.in-Kept.kept)
    (MayFind c.args.model.now c.args.budget)
    (may_find c.args.budget c.args.model.now c.args.certificate.now c.requires.begun c.in-Kept.kept c.in-Kept.points
    (subst (IsLeft c.args.budget c.args.model.now _) c.in-Kept.is left)) c.certified.ensures

pub returns-in-Stopped : goal.returns-in-Stopped
returns-in-Stopped c =
    let left =
    subst (λ s. IsLeft c.args.budget c.args.model.now s c.in_ok-left.left) c.in_ok-sides.ensures c.in_ok-left.ensures in
    stopped_at c.args.budget c.args.model.now c.args.certificate.now c.requires.begun c.in-Stopped.end
    (subst (IsLeft c.args.budget c.args.model.now _) c.in-Stopped.is left)
