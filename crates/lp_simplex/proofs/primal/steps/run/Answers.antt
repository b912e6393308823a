-- A refused choice, an end, a spent budget, a refused step, and the next step.
use Rattle.std.proofs.Common.{refl, sym, ap, ◌∙◌, Some, Ok, arith}
use Rattle.std.proofs.lemmas.Result.{err_from_is_err_and}
use Rattle.spec_exact.specs.Narrow.{number_limit}
use Rattle.lp_tableau.proofs.Budget.{run_refused, run_ends, run_spent, step_refused, step_done}
use Rattle.lp_simplex.proofs.StepRuns.{is_run, spent_at, next_at}
use Rattle.lp_simplex.proofs.StepRuns.{sets_out, one_made, choice_stops, step_stops, budget_stops}
use Rattle.lp_simplex.proofs.primal.steps.run.Goals as goal

pub loop-next-init : goal.loop-next-init
loop-next-init c = record { same = refl; way = sets_out _ _ _ }

pub returns-in_err-next-clause-ended : goal.returns-in_err-next-clause-ended
returns-in_err-next-clause-ended c =
    let p = err_from_is_err_and c.from_residual.result c.from_residual.ensures.1 in
    rw (p.1, p.2) (c.loop-next.invariant.same ∙ run_refused _ _ _ _ (is_run (Some number_limit)) _ _ _ _
    (sym c.in_err-next.ensures.value))

pub returns-in_err-next-clause-stopped : goal.returns-in_err-next-clause-stopped
returns-in_err-next-clause-stopped c =
    let p = err_from_is_err_and c.from_residual.result c.from_residual.ensures.1 in
    rw (p.1, p.2) (choice_stops _ _ _ _ _ c.loop-next.invariant.way _ (sym c.in_err-next.ensures.value))

pub returns-in-End-clause-ended : goal.returns-in-End-clause-ended
returns-in-End-clause-ended c =
    c.loop-next.invariant.same ∙ run_ends _ _ _ _ (is_run (Some number_limit)) _ _ _
    (sym c.in_ok-next.ensures.value ∙ ap Ok c.in-End.is) _ _ refl (λ next. refl)

pub returns-then-used-budget-clause-ended : goal.returns-then-used-budget-clause-ended
returns-then-used-budget-clause-ended c =
    c.loop-next.invariant.same
    ∙ run_spent _ _ _ _ (is_run (Some number_limit)) _ _ _ (sym c.in_ok-next.ensures.value) _
    (spent_at _ _ _ c.in_default.not-End) (omega (arith, c.if-used-budget.true))

pub returns-then-used-budget-clause-stopped : goal.returns-then-used-budget-clause-stopped
returns-then-used-budget-clause-stopped c = budget_stops _ _ _ _ _ c.loop-next.invariant.way c.if-used-budget.true

pub returns-in_err-make-clause-ended : goal.returns-in_err-make-clause-ended
returns-in_err-make-clause-ended c =
    let p = err_from_is_err_and c.from_residual-in_err-make.result c.from_residual-in_err-make.ensures.1 in
    rw (p.1, p.2) (c.loop-next.invariant.same ∙ step_refused _ _ _ _ (is_run (Some number_limit)) _ _ _
    (sym c.in_ok-next.ensures.value) _ c.if-used-budget.false _ (next_at (Some number_limit) _ _ _ c.in_default.not-End)
    _
    c.in_err-make.ensures)

pub returns-in_err-make-clause-stopped : goal.returns-in_err-make-clause-stopped
returns-in_err-make-clause-stopped c =
    let p = err_from_is_err_and c.from_residual-in_err-make.result c.from_residual-in_err-make.ensures.1 in
    rw (p.1, p.2)
    (step_stops _ _ _ _ _ c.loop-next.invariant.way _ _ (sym c.in_ok-next.ensures.value) c.in_err-make.ensures)

pub loop-next-preserved : goal.loop-next-preserved
loop-next-preserved c = record {
  same =
      c.loop-next.invariant.same ∙ step_done _ _ _ _ (is_run (Some number_limit)) _ _ _
      (sym c.in_ok-next.ensures.value) _ c.if-used-budget.false _ (next_at (Some number_limit) _ _ _
      c.in_default.not-End) _
      c.in_ok-make.ensures;
  way =
      one_made _ _ _ _ _ c.loop-next.invariant.way _ _
      (sym c.in_ok-next.ensures.value) c.in_default.not-End c.if-used-budget.false c.in_ok-make.ensures;
}
