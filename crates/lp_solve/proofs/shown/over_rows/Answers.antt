-- The run ends as the stated one without a limit: so its certificate fits.
use Rattle.lp_row_runs.proofs.BothPhases.{of_some}
use Rattle.lp_row_runs.proofs.Widths.{end_stated}
use Rattle.lp_solve.proofs.Factored.{over_fits, over_leaves}
use Rattle.lp_solve.proofs.FromRows.{run_end}
use Rattle.lp_solve.proofs.shown.over_rows.Goals as goal

pub at_row_end-requires-clause-fits : goal.at_row_end-requires-clause-fits
at_row_end-requires-clause-fits c =
    over_fits c.args.budget c.args.model.now c.args.form.now c.requires (run_end c.in-Some.end)
    (end_stated _ c.in-Some.end (of_some _ _ _ c.in-Some.is (c.in_ok-end.ensures.whole c.args.model.now c.requires)))

pub at_row_end-requires-clause-based : goal.at_row_end-requires-clause-based
at_row_end-requires-clause-based c =
    over_leaves c.args.budget c.args.model.now c.args.form.now c.requires (run_end c.in-Some.end)
    (end_stated _ c.in-Some.end (of_some _ _ _ c.in-Some.is (c.in_ok-end.ensures.whole c.args.model.now c.requires)))
