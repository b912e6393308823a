-- Each method, and a refusal of the fit.
use Rattle.std.proofs.Common.{◌≡◌, IfOk, Ok, Some, ap, sym, ◌∙◌, subst}
use Rattle.spec_exact.specs.Narrow.{number_limit}
use Rattle.spec_simplex.specs.declared.ends.Fit.TheVariants as fit
use Rattle.spec_runs.specs.Warm.{after_run}
use Rattle.lp_solve.proofs.WarmRuns.{fit_refused, runs_by}
use Rattle.lp_solve.proofs.warm.from_tableau.Goals as goal

pub returns-in-Ok-Primal-clause-answer : goal.returns-in-Ok-Primal-clause-answer
returns-in-Ok-Primal-clause-answer c =
    subst (λ run. IfOk c.by_primal.result (λ w. w ≡ after_run (Some number_limit) c.args.model.now run))
    (sym (runs_by (Some number_limit) c.args.budget c.args.form.now c.args.basis.now c.args.tab.now c.requires.starts
    fit.Primal (sym c.fit.ensures ∙ c.in-Ok-Primal.is ∙ ap Ok c.in-Ok-Primal.field-0-is)))
    c.by_primal.ensures.answer

pub returns-in-Ok-Dual-clause-answer : goal.returns-in-Ok-Dual-clause-answer
returns-in-Ok-Dual-clause-answer c =
    subst (λ run. IfOk c.by_dual.result (λ w. w ≡ after_run (Some number_limit) c.args.model.now run))
    (sym (runs_by (Some number_limit) c.args.budget c.args.form.now c.args.basis.now c.args.tab.now c.requires.starts
    fit.Dual (sym c.fit.ensures ∙ c.in-Ok-Dual.is ∙ ap Ok c.in-Ok-Dual.field-0-is)))
    c.by_dual.ensures.answer

pub returns-in-Ok-Unfit-clause-answer : goal.returns-in-Ok-Unfit-clause-answer
returns-in-Ok-Unfit-clause-answer c =
    ap (after_run (Some number_limit) c.args.model.now)
    (sym (runs_by (Some number_limit) c.args.budget c.args.form.now c.args.basis.now c.args.tab.now c.requires.starts
    fit.Unfit (sym c.fit.ensures ∙ c.in-Ok-Unfit.is ∙ ap Ok c.in-Ok-Unfit.field-0-is)))

pub returns-in-Err-clause-answer : goal.returns-in-Err-clause-answer
returns-in-Err-clause-answer c =
    ap (after_run (Some number_limit) c.args.model.now)
    (sym (fit_refused (Some number_limit) c.args.budget c.args.form.now c.args.basis.now c.args.tab.now
    c.requires.starts _
    (sym c.fit.ensures ∙ c.in-Err.is)))
