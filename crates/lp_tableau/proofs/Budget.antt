-- Steps up to an end within a budget, by the first of them, whatever chooses a step and whatever it does.
use Rattle.std.proofs.Common.{◌≡◌, ℕ, zero, suc, ◌+◌, ◌-◌, ◌<◌, Result, Ok, Err, ap, ◌∙◌, arith}
use Rattle.spec_exact.specs.Fraction.{ℚ}
use Rattle.spec_exact.specs.declared.past.Past.{Past}
use Rattle.spec_simplex.specs.declared.ends.RunStop.{RunStop}
use Rattle.spec_simplex.specs.declared.ends.RunStop.TheVariants as stop
use Rattle.spec_exact.specs.Run.{Run, ◌>>=◌, refused_as}
use Rattle.spec_simplex.specs.Tableau.{Tableau}

-- each time a choice is made first, and then the run ends, or is spent where none is left of the budget, or goes on
pub record IsRun {C E : Type 0} (choose : Tableau → Run C) (end_or_spent : Tableau → ℕ → C → Result E (RunStop ℚ))
    (end_or_next : Tableau → ℕ → (Tableau → Result E (RunStop ℚ)) → C → Result E (RunStop ℚ))
    (run : ℕ → ℕ → Tableau → Result E (RunStop ℚ)) : Type 0 where
  pub none_left : (used : ℕ) (t : Tableau) →
      run zero used t ≡ (refused_as stop.Past (choose t) >>= end_or_spent t used)
  pub some_left : (left used : ℕ) (t : Tableau) → run (suc left) used t
      ≡ (refused_as stop.Past (choose t) >>= end_or_next t used (λ u. run left (used + 1) u))

module _ {C E : Type 0} (choose : Tableau → Run C) (end_or_spent : Tableau → ℕ → C → Result E (RunStop ℚ))
    (end_or_next : Tableau → ℕ → (Tableau → Result E (RunStop ℚ)) → C → Result E (RunStop ℚ))
    (run : ℕ → ℕ → Tableau → Result E (RunStop ℚ)) (is : IsRun choose end_or_spent end_or_next run) where
  pub run_refused : (left used : ℕ) (t : Tableau) (p : Past ℚ) → choose t ≡ Err p → run left used t ≡ Err (stop.Past p)
  run_refused zero used t p h = is.none_left used t ∙ ap (λ o. refused_as stop.Past o >>= end_or_spent t used) h
  run_refused (suc left) used t p h =
      is.some_left left used t
      ∙ ap (λ o. refused_as stop.Past o >>= end_or_next t used (λ u. run left (used + 1) u)) h

  module _ (used : ℕ) (t : Tableau) (choice : C) (h : choose t ≡ Ok choice) where
    last_is : run zero used t ≡ end_or_spent t used choice
    last_is = is.none_left used t ∙ ap (λ o. refused_as stop.Past o >>= end_or_spent t used) h

    next_is : (left : ℕ) → run (suc left) used t ≡ end_or_next t used (λ u. run left (used + 1) u) choice
    next_is left =
        is.some_left left used t
        ∙ ap (λ o. refused_as stop.Past o >>= end_or_next t used (λ u. run left (used + 1) u)) h

    pub run_ends : (left : ℕ) (x : E) → end_or_spent t used choice ≡ Ok x →
        ((next : Tableau → Result E (RunStop ℚ)) → end_or_next t used next choice ≡ Ok x) → run left used t ≡ Ok x
    run_ends zero x e g = last_is ∙ e
    run_ends (suc left) x e g = next_is left ∙ g (λ u. run left (used + 1) u)

    pub run_spent : (left : ℕ) → end_or_spent t used choice ≡ Err stop.Spent → left ≡ 0 →
        run left used t ≡ Err stop.Spent
    run_spent zero e z = last_is ∙ e
    run_spent (suc left) e z = absurd (let y : ⊥ = omega (arith, z) in y)

    -- where some is left of the budget, and the choice is a step
    module _ (budget : ℕ) (l : used < budget) (done : Run Tableau) (g : (next : Tableau → Result E (RunStop ℚ)) →
        end_or_next t used next choice ≡ (refused_as stop.Past done >>= next)) where
      one_step : run (budget - used) used t
          ≡ (refused_as stop.Past done >>= λ u. run (budget - (used + 1)) (used + 1) u)
      one_step =
          let z : budget - used ≡ suc (budget - (used + 1)) = omega (arith, l) in
          ap (λ left. run left used t) z ∙ next_is (budget - (used + 1))
          ∙ g (λ u. run (budget - (used + 1)) (used + 1) u)

      pub step_refused : (p : Past ℚ) → done ≡ Err p → run (budget - used) used t ≡ Err (stop.Past p)
      step_refused p e =
          one_step ∙ ap (λ o. refused_as stop.Past o >>= λ u. run (budget - (used + 1)) (used + 1) u) e

      pub step_done : (u : Tableau) → done ≡ Ok u → run (budget - used) used t ≡ run (budget - (used + 1)) (used + 1) u
      step_done u e =
          one_step ∙ ap (λ o. refused_as stop.Past o >>= λ u. run (budget - (used + 1)) (used + 1) u) e
