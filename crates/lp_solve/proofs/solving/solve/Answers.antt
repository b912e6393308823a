-- By the form, or why there is none, where there can be no starting basis.
use Rattle.lp_solve.proofs.WarmRuns.{fits_form}
use Rattle.lp_solve.proofs.Allowed.{formless_solved}
use Rattle.lp_solve.proofs.solving.solve.Goals as goal

pub solve_formed-solved-requires-clause-fits : goal.solve_formed-solved-requires-clause-fits
solve_formed-solved-requires-clause-fits c = fits_form _ _ _ _ _ c.in-Ok.ensures.ok c.requires.starting

pub returns-in-Err : goal.returns-in-Err
returns-in-Err c =
    formless_solved c.args.budget c.args.model.now _ c.args.starting _ c.requires.starting c.solve_formless.ensures.solved
    c.solve_formless.ensures.formless
