-- A run of steps, and both phases, at a limit beside those without one.
use Rattle.std.proofs.Common.{◌≡◌, ℕ, zero, suc, ◌+◌, ◌-◌}
use Rattle.std.proofs.Common.{Option, None, Result, Err}
use Rattle.spec_exact.specs.Fraction.{ℚ}
use Rattle.spec_simplex.specs.declared.ends.Choice.{Choice}
use Rattle.spec_simplex.specs.declared.ends.Choice.TheVariants.{End, Flip, Pivot}
use Rattle.spec_simplex.specs.declared.ends.PrimalEnd.TheVariants.{Optimal}
use Rattle.spec_simplex.specs.declared.ends.RunStop.{RunStop}
use Rattle.spec_simplex.specs.declared.ends.RunStop.TheVariants as stop
use Rattle.spec_simplex.specs.Form.{Form}
use Rattle.spec_simplex.specs.Tableau.{Tableau}
use Rattle.spec_simplex.specs.Phases.{PrimalEnded, end_or_spent, end_or_next, run_from}
use Rattle.spec_simplex.specs.Phases.{without_artificials, phase_two_run, wants_phase_one, is_stuck}
use Rattle.spec_simplex.specs.Phases.{phase_two, Infeasible, Finished, phases_run}
use Rattle.spec_simplex.proofs.Refusals.{Agrees, as_it_is, agrees_ok, agrees_err, agrees_then, agrees_if, agrees_as}
use Rattle.spec_simplex.proofs.LimitStart.{priced_agrees, start_agrees}
use Rattle.spec_simplex.proofs.LimitStart.{choice_agrees, flip_agrees, pivot_agrees}

-- two runs that both end because the budget is spent agree
pub spent_agrees : {A : Type 0} → Agrees {A = A} stop.Past (Err stop.Spent) (Err stop.Spent)
spent_agrees = agrees_err stop.Past stop.Spent (λ p e. let z : ◌≡◌ {A = RunStop ℚ} stop.Spent (stop.Past p) = e in cc)

module _ (limit : Option ℕ) where
  -- how the steps end where the budget is used up is never a refusal of an operation
  end_agrees : (t : Tableau) (used : ℕ) (c : Choice ℚ) →
      Agrees stop.Past (end_or_spent t used c) (end_or_spent t used c)
  end_agrees t used (End end) = agrees_ok stop.Past (record { end = end; tableau = t; used = used })
  end_agrees t used (Flip j) = spent_agrees
  end_agrees t used (Pivot p j theta to) = spent_agrees

  -- where what goes on after a step agrees at a limit and without one, so do the step and what follows
  next_agrees : (t : Tableau) (used : ℕ) (f g : Tableau → Result PrimalEnded (RunStop ℚ)) →
      ((u : Tableau) → Agrees stop.Past (f u) (g u)) → (c : Choice ℚ) →
      Agrees stop.Past (end_or_next limit t used f c) (end_or_next None t used g c)
  next_agrees t used f g h (End end) = agrees_ok stop.Past (record { end = end; tableau = t; used = used })
  next_agrees t used f g h (Flip j) = agrees_then stop.Past _ _ f g (agrees_as stop.Past _ _ (flip_agrees limit t j)) h
  next_agrees t used f g h (Pivot p j theta to) =
      agrees_then stop.Past _ _ f g (agrees_as stop.Past _ _ (pivot_agrees limit t p j theta to)) h

  -- without a limit steps of a run are never refused; at a limit they are the same, or they are refused
  pub run_agrees : (left used : ℕ) (t : Tableau) →
      Agrees stop.Past (run_from limit left used t) (run_from None left used t)
  unfolding run_from
  run_agrees zero used t =
      agrees_then stop.Past _ _ (end_or_spent t used) (end_or_spent t used)
      (agrees_as stop.Past _ _ (choice_agrees limit t)) (end_agrees t used)
  run_agrees (suc left) used t =
      agrees_then stop.Past _ _ (end_or_next limit t used (λ u. run_from limit left (used + 1) u))
      (end_or_next None t used (λ u. run_from None left (used + 1) u)) (agrees_as stop.Past _ _ (choice_agrees limit t))
      (next_agrees t used (λ u. run_from limit left (used + 1) u)
      (λ u. run_from None left (used + 1) u) (λ u. run_agrees left (used + 1) u))

  -- without a limit the beginning of phase two is never refused; at a limit it is the same, or it is refused
  pub two_agrees : (f : Form) (t : Tableau) → Agrees as_it_is (phase_two_run limit f t) (phase_two_run None f t)
  unfolding phase_two_run
  two_agrees f t =
      agrees_then as_it_is _ _ _ _ (priced_agrees limit (without_artificials t) f.cost)
      (λ reduced. agrees_ok as_it_is _)

  -- without a limit phase two is never refused; at a limit it is the same, or it is refused
  phase_two_agrees : (budget : ℕ) (f : Form) (one : PrimalEnded) →
      Agrees stop.Past (phase_two limit budget f one) (phase_two None budget f one)
  phase_two_agrees budget f one =
      agrees_then stop.Past _ _ _ _ (agrees_as stop.Past _ _ (two_agrees f one.tableau)) (λ t.
      agrees_then stop.Past _ _ _ _ (run_agrees (budget - one.used) one.used t)
      (λ two. agrees_ok stop.Past (Finished two)))

  -- without a limit both phases are never refused; at a limit they are the same, or they are refused
  pub phases_agree : (budget : ℕ) (f : Form) → Agrees stop.Past (phases_run limit budget f) (phases_run None budget f)
  unfolding phases_run
  phases_agree budget f =
      agrees_then stop.Past _ _ _ _ (agrees_as stop.Past _ _ (start_agrees limit f)) (λ t.
      agrees_then stop.Past _ _ _ _ (agrees_if stop.Past (wants_phase_one t) _ _ _ _ (run_agrees budget 0 t)
      (agrees_ok stop.Past (record { end = Optimal; tableau = t; used = 0 }))) (λ one.
      agrees_if stop.Past (is_stuck one.tableau) _ _ _ _
      (agrees_ok stop.Past (Infeasible one.tableau one.used)) (phase_two_agrees budget f one)))
