-- By the end of the solve.
use Rattle.std.proofs.Common.{sym, subst}
use Rattle.lp_iis.specs.Trials.{IsTried}
use Rattle.lp_iis.proofs.Tried.{ends_cold, tried}
use Rattle.lp_iis.proofs.trial.try_model.Goals as goal

pub returns : goal.returns
returns c =
    subst (IsTried c.args.budget c.args.model.now) (sym c.said_by.ensures)
    (tried c.args.budget c.args.model.now c.in_ok-end.end
    (ends_cold c.args.model.now c.args.budget _ c.in_ok-end.ensures))
