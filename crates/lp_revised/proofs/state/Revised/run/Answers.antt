-- A stop in the choice, an end, a spent budget, a stop in the step, and the next step.
use Rattle.std.proofs.Common.{refl, sym, subst, ◌∙◌, ◌-◌, arith}
use Rattle.std.proofs.lemmas.Result.{err_from_is_err_and}
use Rattle.lp_revised.specs.Answer.{StopsRevised}
use Rattle.lp_revised.proofs.OneStep.{ends_with, run_refused, run_ends, run_spent, step_stops, step_done}
use Rattle.lp_revised.proofs.state.Revised.run.Goals as goal

pub loop-selected-init : goal.loop-selected-init
loop-selected-init c = record { same = refl; rows = refl; cols = refl; few = c.requires.few }

pub returns-in_err-selected-clause-run : goal.returns-in_err-selected-clause-run
returns-in_err-selected-clause-run c =
    let p = err_from_is_err_and c.from_residual.result c.from_residual.ensures.1 in
    rw (p.1, p.2)
    (subst (λ r. StopsRevised r c.in_err-selected.field-0.0) (sym c.loop-selected.invariant.same)
    (run_refused c.args.form.now c.args.starts.now c.args.costs.now (c.args.budget - c.loop-selected.used)
    c.loop-selected.used
    c.loop-selected.self c.in_err-selected.field-0.0 c.in_err-selected.ensures.run))

pub returns-in-End-clause-run : goal.returns-in-End-clause-run
returns-in-End-clause-run c =
    c.loop-selected.invariant.same
    ∙ run_ends _ _ _ _ c.in_ok-selected.selected c.in_ok-selected.ensures.run _ _ _ c.in-End.is

pub returns-in-End-clause-with : goal.returns-in-End-clause-with
returns-in-End-clause-with c = ends_with _ _ _ _ _ c.in-End.is c.in_ok-selected.ensures.possible

pub returns-then-used-budget-clause-run : goal.returns-then-used-budget-clause-run
returns-then-used-budget-clause-run c =
    c.loop-selected.invariant.same
    ∙ run_spent _ _ _ _ c.in_ok-selected.selected c.in_ok-selected.ensures.run _ _ c.in_default.not-End
    (omega (arith, c.if-used-budget.true))

pub returns-in_err-make-clause-run : goal.returns-in_err-make-clause-run
returns-in_err-make-clause-run c =
    let p = err_from_is_err_and c.from_residual-in_err-make.result c.from_residual-in_err-make.ensures.1 in
    rw (p.1, p.2)
    (subst (λ r. StopsRevised r c.in_err-make.field-0.0) (sym c.loop-selected.invariant.same)
    (step_stops c.args.form.now c.args.starts.now c.args.costs.now c.loop-selected.self c.in_ok-selected.selected
    c.in_ok-selected.ensures.run
    c.args.budget c.loop-selected.used c.in_err-make.field-0.0 c.in_default.not-End c.if-used-budget.false
    c.in_err-make.ensures.run))

pub loop-selected-preserved-in_ok-make : goal.loop-selected-preserved-in_ok-make
loop-selected-preserved-in_ok-make c = record {
  same =
      c.loop-selected.invariant.same
      ∙ step_done _ _ _ _ c.in_ok-selected.selected c.in_ok-selected.ensures.run _ _ _ c.in_default.not-End
      c.if-used-budget.false c.in_ok-make.ensures.run;
  rows = c.in_ok-make.ensures.rows ∙ c.loop-selected.invariant.rows;
  cols = c.in_ok-make.ensures.cols ∙ c.loop-selected.invariant.cols;
  few = c.in_ok-make.ensures.fresh;
}
