-- A refused choice, an end, a spent budget, a refused pivot, and the next step.
use Rattle.std.proofs.Common.{refl, sym, ap, ◌∙◌, subst, Some, Ok, arith}
use Rattle.std.proofs.lemmas.Result.{err_from_is_err_and}
use Rattle.spec_exact.specs.Narrow.{number_limit}
use Rattle.lp_tableau.proofs.Budget.{run_refused, run_ends, run_spent, step_refused, step_done}
use Rattle.lp_simplex.specs.Starts.{CanTake}
use Rattle.lp_simplex.proofs.Seats.{pivot_seated}
use Rattle.lp_simplex.proofs.Walk.{is_run}
use Rattle.lp_simplex.proofs.dual.steps.steps.Goals as goal

pub returns-in_err-end-clause-runs : goal.returns-in_err-end-clause-runs
returns-in_err-end-clause-runs c =
    let p = err_from_is_err_and c.from_residual.result c.from_residual.ensures.1 in
    rw (p.1, p.2) (c.loop-end.invariant.0 ∙ run_refused _ _ _ _ (is_run (Some number_limit)) _ _ _ _
    (sym c.in_err-end.ensures.value))

pub returns-in-End-clause-runs : goal.returns-in-End-clause-runs
returns-in-End-clause-runs c =
    c.loop-end.invariant.0 ∙ run_ends _ _ _ _ (is_run (Some number_limit)) _ _ _
    (sym c.in_ok-end.ensures.value ∙ ap Ok c.in-End.is) _ _ refl (λ next. refl)

pub returns-in-End-clause-inside : goal.returns-in-End-clause-inside
returns-in-End-clause-inside c = subst (CanTake c.loop-end.tab) c.in-End.is c.in_ok-end.ensures.possible

pub returns-then-used-budget-clause-runs : goal.returns-then-used-budget-clause-runs
returns-then-used-budget-clause-runs c =
    c.loop-end.invariant.0 ∙ run_spent _ _ _ _ (is_run (Some number_limit)) _ _ _
    (sym c.in_ok-end.ensures.value ∙ ap Ok c.in-Pivot.is) _ refl (omega (arith, c.if-used-budget.true))

pub returns-in_err-pivot-in-Pivot-clause-runs : goal.returns-in_err-pivot-in-Pivot-clause-runs
returns-in_err-pivot-in-Pivot-clause-runs c =
    let p =
    err_from_is_err_and c.from_residual-in_err-pivot-in-Pivot.result c.from_residual-in_err-pivot-in-Pivot.ensures.1 in
    rw (p.1, p.2) (c.loop-end.invariant.0 ∙ step_refused _ _ _ _ (is_run (Some number_limit)) _ _ _
    (sym c.in_ok-end.ensures.value ∙ ap Ok c.in-Pivot.is) _ c.if-used-budget.false _ (λ next. refl) _
    c.in_err-pivot-in-Pivot.ensures)

pub loop-end-preserved : goal.loop-end-preserved
loop-end-preserved c = (
  c.loop-end.invariant.0 ∙ step_done _ _ _ _ (is_run (Some number_limit)) _ _ _
      (sym c.in_ok-end.ensures.value ∙ ap Ok c.in-Pivot.is) _ c.if-used-budget.false _ (λ next. refl) _
      c.in_ok-pivot-in-Pivot.ensures,
  pivot_seated (Some number_limit) c.loop-end.tab _ _ _ _ c.loop-end.invariant.1
      (subst (CanTake c.loop-end.tab) c.in-Pivot.is c.in_ok-end.ensures.possible) c.in_ok-pivot-in-Pivot.ensures,
)
