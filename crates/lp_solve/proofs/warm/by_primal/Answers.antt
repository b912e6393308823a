-- The end of the run, its certificate and basis, and a stop.
use Rattle.std.proofs.Common.{◌≢◌, ℕ, Err, ap, sym, ◌∙◌, subst, List, Option, Some, IfSome}
use Rattle.spec_check.specs.Certificate.{IsFor}
use Rattle.spec_check.specs.Run.{check_run}
use Rattle.spec_check.specs.declared.certificate.CheckStop.TheVariants.{No}
use Rattle.spec_pivot.specs.declared.status.Status.{Status}
use Rattle.spec_simplex.specs.Eliminate.{IsBasisOf}
use Rattle.spec_runs.specs.Warm.{after_run}
use native.Mathlib.Numerals.{unary_clauses}
use Rattle.spec_exact.specs.Narrow.{number_limit}
use Rattle.lp_solve.proofs.RunEnds.{run_inside}
use Rattle.lp_solve.proofs.WarmRuns.{primal_ends, primal_stops, primal_fits, primal_never_no, primal_leaves}
use Rattle.lp_solve.proofs.warm.by_primal.Goals as goal

pub certificate_at-requires : goal.certificate_at-requires
certificate_at-requires c = run_inside _ _ _ _ _ _ _ c.in-Ok.ensures.ended

pub basis_of-requires : goal.basis_of-requires
basis_of-requires c =
    subst (λ (o : Option (List Status)). IfSome o (λ basis. IsBasisOf c.args.form.now basis))
    (sym c.in_ok-statuses-in-Ok.ensures)
    (primal_leaves c.args.budget c.args.model.now c.args.form.now c.args.tab.now c.requires.formed
    (record { end = c.in-Ok.end; tableau = c.run.new.tab; used = c.run.new.used }) c.requires.begun
    (simp unary_clauses at c.in-Ok.ensures.ended))

pub checked_warm-requires-clause-fits : goal.checked_warm-requires-clause-fits
checked_warm-requires-clause-fits c =
    subst (IsFor c.args.model.now) (sym (c.in_ok-certificate-in-Ok.ensures.value))
    (primal_fits _ _ _ (record { end = c.in-Ok.end; tableau = c.run.new.tab; used = c.run.new.used }) c.requires.begun
    (simp unary_clauses at c.in-Ok.ensures.ended))

pub checked_warm-requires-clause-never_no : goal.checked_warm-requires-clause-never_no
checked_warm-requires-clause-never_no c =
    subst (λ cert. (n : ℕ) → check_run (Some number_limit) c.args.model.now cert ≢ Err (No n))
    (sym (c.in_ok-certificate-in-Ok.ensures.value))
    (primal_never_no _ _ _ (record { end = c.in-Ok.end; tableau = c.run.new.tab; used = c.run.new.used }) c.requires.begun
    (simp unary_clauses at c.in-Ok.ensures.ended))

pub returns-in_ok-certificate-in-Ok-clause-answer : goal.returns-in_ok-certificate-in-Ok-clause-answer
returns-in_ok-certificate-in-Ok-clause-answer c =
    rw (c.in_ok-certificate-in-Ok.ensures.value, c.basis_of.ensures, c.in_ok-statuses-in-Ok.ensures) at
    c.checked_warm.ensures.answer
    ∙ ap (after_run (Some number_limit) c.args.model.now)
    (sym (primal_ends (Some number_limit) c.args.budget c.args.tab.now
    (record { end = c.in-Ok.end; tableau = c.run.new.tab; used = c.run.new.used })
    (simp unary_clauses at c.in-Ok.ensures.ended)))

pub returns-in-Err-clause-answer : goal.returns-in-Err-clause-answer
returns-in-Err-clause-answer c =
    rw c.run_stop.ensures
    (ap (after_run (Some number_limit) c.args.model.now)
    (sym (primal_stops (Some number_limit) c.args.budget c.args.tab.now c.in-Err.stop
    (simp unary_clauses at c.in-Err.ensures.ended))))
