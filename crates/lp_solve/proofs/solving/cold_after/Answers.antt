-- The engines end so whichever the basis is.
use Rattle.lp_solve.proofs.Allowed.{after_stop}
use Rattle.lp_solve.proofs.solving.cold_after.Goals as goal

pub returns : goal.returns
returns c =
    rw c.fall.ensures
    (after_stop c.args.budget c.args.model.now c.args.form.now c.args.stop _ c.requires
    c.in_ok-cold_solve.ensures.answer c.in_ok-cold_solve.ensures.narrow)
