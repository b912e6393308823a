-- By the form, or why there is none, where there can be no starting basis.
use Rattle.lp_solve.proofs.WarmRuns.{fits_form}
use Rattle.lp_solve.proofs.ExactLemmas.{formless_exactly}
use Rattle.lp_solve.proofs.exact.solve_exactly.Goals as goal

pub by_form-end-requires-clause-fits : goal.by_form-end-requires-clause-fits
by_form-end-requires-clause-fits c = fits_form _ _ _ _ _ c.in-Ok.ensures.ok c.requires

pub returns-in-Err : goal.returns-in-Err
returns-in-Err c =
    formless_exactly c.args.model.now c.args.budget _ c.args.starting c.formless.result c.requires
    (c.formless.ensures.end c.args.budget) c.formless.ensures.formless
