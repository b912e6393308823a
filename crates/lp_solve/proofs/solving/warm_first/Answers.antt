-- What the warm start ended with, and the cold solve where it stopped.
use Rattle.lp_solve.proofs.Allowed.{warm_solved, after_solved}
use Rattle.lp_solve.proofs.solving.warm_first.Goals as goal

pub returns-in-Ended : goal.returns-in-Ended
returns-in-Ended c =
    warm_solved c.args.budget c.args.model.now c.args.form.now c.args.basis.now c.requires.formed c.requires.fits _ _ _
    _ _ c.in-Ended.is c.in_ok-answer.ensures.answer c.in_ok-answer.ensures.narrow

pub returns-in-Stopped : goal.returns-in-Stopped
returns-in-Stopped c =
    after_solved c.args.budget c.args.model.now c.args.form.now c.args.basis.now c.requires.formed c.requires.fits _ _
    c.cold_after.result c.in-Stopped.is c.in_ok-answer.ensures.answer c.cold_after.ensures
