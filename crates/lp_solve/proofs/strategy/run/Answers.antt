-- By the engine. The runs over factors and over rows end as the stated one without a limit: so their certificates are
-- accepted, and their bases are those of the form.
use Rattle.std.proofs.Common.{IfOk, sym, subst}
use Rattle.spec_check.specs.declared.solve_end.SolveEnd.TheVariants.{Spent}
use Rattle.lp_row_runs.proofs.BothPhases.{of_some}
use Rattle.lp_row_runs.proofs.Widths.{end_stated, end_narrow}
use Rattle.lp_solve.specs.Strategy.{IsRunOf}
use Rattle.lp_solve.proofs.Factored.{over_fits, over_accepted, over_leaves, over_ends, past_stops, spent_stops}
use Rattle.lp_solve.proofs.Factored.{factors_run, tableaus_run}
use Rattle.lp_solve.proofs.FromRows.{run_end, rows_run}
use Rattle.lp_solve.proofs.strategy.run.Goals as goal

-- ---- over factors

pub basis_of-requires : goal.basis_of-requires
basis_of-requires c =
    over_leaves c.args.budget c.args.model.now c.args.form.now c.requires c.in-Ok.end
    (c.in-Ok.ensures.whole c.args.model.now c.requires)

pub checked_cold-requires-clause-fits : goal.checked_cold-requires-clause-fits
checked_cold-requires-clause-fits c =
    over_fits c.args.budget c.args.model.now c.args.form.now c.requires c.in-Ok.end
    (c.in-Ok.ensures.whole c.args.model.now c.requires)

pub checked_cold-requires-clause-never_no : goal.checked_cold-requires-clause-never_no
checked_cold-requires-clause-never_no c =
    over_accepted c.args.budget c.args.model.now c.args.form.now c.requires c.in-Ok.end
    (c.in-Ok.ensures.whole c.args.model.now c.requires)

pub returns-in-Ok-clause-answer : goal.returns-in-Ok-clause-answer
returns-in-Ok-clause-answer c =
    factors_run c.args.budget c.args.model.now c.args.form.now c.requires c.args.engine c.checked_cold.result
    c.in-Factors.is
    (over_ends c.args.budget c.args.model.now c.args.form.now c.requires c.in-Ok.end c.checked_cold.result
    c.in-Ok.ensures.run (rw c.basis_of.ensures at c.checked_cold.ensures.answer))

pub returns-in-Err-Past-clause-answer : goal.returns-in-Err-Past-clause-answer
returns-in-Err-Past-clause-answer c =
    rw c.in-Err-Past.past-is
    (factors_run c.args.budget c.args.model.now c.args.form.now c.requires c.args.engine _ c.in-Factors.is
    (past_stops c.args.budget c.args.model.now c.args.form.now c.requires c.in-Err-Past.field-0 _
    c.in-Err-Past.field-0-is c.in-Err-Past.ensures.run))

pub returns-in-Err-Cause-clause-answer : goal.returns-in-Err-Cause-clause-answer
returns-in-Err-Cause-clause-answer c =
    factors_run c.args.budget c.args.model.now c.args.form.now c.requires c.args.engine _ c.in-Factors.is
    (spent_stops c.args.budget c.args.model.now c.args.form.now c.requires c.in-Err-Cause.field-0 _
    c.in-Err-Cause.field-0-is c.in-Err-Cause.ensures.run)

-- ---- over whole tableaus

pub returns-in-Tableaus-clause-answer : goal.returns-in-Tableaus-clause-answer
returns-in-Tableaus-clause-answer c =
    subst (λ engine. IfOk c.from_form.result (IsRunOf c.args.budget c.args.model.now c.args.form.now engine))
    (sym c.in-Tableaus.is)
    (tableaus_run c.args.budget c.args.model.now c.args.form.now c.requires c.from_form.result c.from_form.ensures.answer)

-- ---- over rows of whole numbers

pub basis_of-requires-in-Some : goal.basis_of-requires-in-Some
basis_of-requires-in-Some c =
    over_leaves c.args.budget c.args.model.now c.args.form.now c.requires (run_end c.in-Some.row_end)
    (end_stated _ c.in-Some.row_end
    (of_some _ _ _ c.in-Some.is (c.in_ok-row_end-in-Rows.ensures.whole c.args.model.now c.requires)))

pub checked_cold-requires-in-Some-clause-fits : goal.checked_cold-requires-in-Some-clause-fits
checked_cold-requires-in-Some-clause-fits c =
    over_fits c.args.budget c.args.model.now c.args.form.now c.requires (run_end c.in-Some.row_end)
    (end_stated _ c.in-Some.row_end
    (of_some _ _ _ c.in-Some.is (c.in_ok-row_end-in-Rows.ensures.whole c.args.model.now c.requires)))

pub checked_cold-requires-in-Some-clause-never_no : goal.checked_cold-requires-in-Some-clause-never_no
checked_cold-requires-in-Some-clause-never_no c =
    over_accepted c.args.budget c.args.model.now c.args.form.now c.requires (run_end c.in-Some.row_end)
    (end_stated _ c.in-Some.row_end
    (of_some _ _ _ c.in-Some.is (c.in_ok-row_end-in-Rows.ensures.whole c.args.model.now c.requires)))

pub checked_cold-requires-in-Some-clause-narrow : goal.checked_cold-requires-in-Some-clause-narrow
checked_cold-requires-in-Some-clause-narrow c =
    end_narrow c.in-Some.row_end.certificate (of_some _ _ _ c.in-Some.is c.in_ok-row_end-in-Rows.ensures.fits)

pub returns-in-Some-clause-answer : goal.returns-in-Some-clause-answer
returns-in-Some-clause-answer c =
    subst (λ engine. IsRunOf c.args.budget c.args.model.now c.args.form.now engine c.checked_cold-in-Some.result)
    (sym c.in-Rows.is)
    (rows_run c.args.budget c.args.model.now c.args.form.now c.requires (run_end c.in-Some.row_end)
    (end_stated _ c.in-Some.row_end
    (of_some _ _ _ c.in-Some.is (c.in_ok-row_end-in-Rows.ensures.whole c.args.model.now c.requires)))
    c.checked_cold-in-Some.result (rw c.basis_of-in-Some.ensures at c.checked_cold-in-Some.ensures.answer))

pub returns-in-None-clause-answer : goal.returns-in-None-clause-answer
returns-in-None-clause-answer c =
    subst (λ engine. IsRunOf c.args.budget c.args.model.now c.args.form.now engine Spent) (sym c.in-Rows.is) tt
