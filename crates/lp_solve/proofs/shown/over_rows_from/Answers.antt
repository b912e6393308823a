-- The run ends as the stated one from the basis without a limit: so its certificate fits.
use Rattle.lp_row_runs.proofs.BothPhases.{of_some}
use Rattle.lp_solve.proofs.Unlimited.{warm_fits, warm_based}
use Rattle.lp_solve.proofs.shown.over_rows_from.Goals as goal

pub at_row_end-requires-clause-fits : goal.at_row_end-requires-clause-fits
at_row_end-requires-clause-fits c =
    warm_fits c.args.budget c.args.model.now c.args.form.now c.requires.formed c.args.basis.now _ c.as_slice.ensures
    c.requires.fits c.in-Some.end
    (of_some _ _ _ c.in-Some.is (c.in_ok-end.ensures c.args.model.now c.requires.formed))

pub at_row_end-requires-clause-based : goal.at_row_end-requires-clause-based
at_row_end-requires-clause-based c =
    warm_based c.args.budget c.args.model.now c.args.form.now c.requires.formed c.args.basis.now _ c.as_slice.ensures
    c.requires.fits c.in-Some.end
    (of_some _ _ _ c.in-Some.is (c.in_ok-end.ensures c.args.model.now c.requires.formed))
