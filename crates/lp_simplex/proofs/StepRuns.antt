-- Runs of primal steps: that they make a choice first, and how many steps are made.
--
-- `spent_at`: where a step is chosen that is no end and no budget is left, the run stops as spent.
-- `sets_out`: a run is under way at its first tableau, with no step made.
use Rattle.std.proofs.Common.{◌≡◌, ℕ, suc, ◌+◌, ◌-◌, ◌<◌, ◌≤◌, Some, Option, Result, Ok, Err, refl, ap, ◌∙◌, arith}
use Rattle.spec_exact.specs.Fraction.{ℚ}
use Rattle.spec_exact.specs.declared.past.Past.{Past}
use Rattle.spec_simplex.specs.declared.ends.PrimalEnd.{PrimalEnd}
use Rattle.spec_simplex.specs.declared.ends.Choice.{Choice}
use Rattle.spec_simplex.specs.declared.ends.Choice.TheVariants.{End, Flip, Pivot}
use Rattle.spec_simplex.specs.declared.ends.RunStop.{RunStop}
use Rattle.spec_simplex.specs.declared.ends.RunStop.TheVariants as stop
use Rattle.spec_exact.specs.Run.{◌>>=◌, refused_as}
use Rattle.spec_exact.specs.Narrow.{number_limit}
use Rattle.spec_simplex.specs.Tableau.{Tableau}
use Rattle.spec_simplex.specs.Step.{choice_run}
use Rattle.lp_tableau.proofs.Budget.{IsRun}
use Rattle.lp_simplex.specs.PrimalAnswer.{Steps, StopsAt, StopsAfter}
use Rattle.spec_simplex.specs.Phases.{PrimalEnded, done_run, end_or_spent, end_or_next, run_from}

-- a step that is no end
abbrev pub GoesOn : Choice ℚ → Type 0
GoesOn choice = (end : PrimalEnd) → choice ≡ End end → ⊥

pub spent_at : (t : Tableau) (used : ℕ) (choice : Choice ℚ) → GoesOn choice →
    end_or_spent t used choice ≡ Err stop.Spent
spent_at t used (End end) n = absurd (n end refl)
spent_at t used (Flip j) n = refl
spent_at t used (Pivot p j theta to) n = refl

module _ (limit : Option ℕ) where
  pub is_run : IsRun (choice_run limit) end_or_spent (end_or_next limit) (run_from limit)
  unfolding run_from
  is_run = record { none_left = λ used t. refl; some_left = λ left used t. refl }

  pub next_at : (t : Tableau) (used : ℕ) (choice : Choice ℚ) → GoesOn choice →
      (next : Tableau → Result PrimalEnded (RunStop ℚ)) →
      end_or_next limit t used next choice ≡ (refused_as stop.Past (done_run limit t choice) >>= next)
  next_at t used (End end) n next = absurd (n end refl)
  next_at t used (Flip j) n next = refl
  next_at t used (Pivot p j theta to) n next = refl

-- ---- how many steps are made

-- flips and pivots lead from t, with the count `used`, to u, with the count `now`; they are no more than the budget has
-- left
pub record IsUnderWay (budget used : ℕ) (t : Tableau) (now : ℕ) (u : Tableau) : Type 0 where
  pub count : ℕ
  pub counted : now ≡ used + count
  pub few : count ≤ budget - used
  pub steps : Steps count t u

pub sets_out : (budget used : ℕ) (t : Tableau) → IsUnderWay budget used t used t
sets_out budget used t = record { count = 0; counted = omega arith; few = omega arith; steps = refl }

module _ (budget used : ℕ) (t : Tableau) (now : ℕ) (u : Tableau) (w : IsUnderWay budget used t now u) where
  pub one_made : (v : Tableau) (choice : Choice ℚ) → choice_run (Some number_limit) u ≡ Ok choice → GoesOn choice →
      now < budget → done_run (Some number_limit) u choice ≡ Ok v → IsUnderWay budget used t (now + 1) v
  one_made v choice h n l g =
      record {
        count = suc w.count;
        counted = omega (arith, w.counted);
        few = omega (arith, w.counted, l);
        steps = (u, w.steps, record { choice = choice; chosen = h; no_end = n; done = g });
      }

  stops_after : (stop : RunStop ℚ) → StopsAt budget now u stop → StopsAfter budget used t now stop
  stops_after stop h =
      record { count = w.count; last = u; counted = w.counted; few = w.few; steps = w.steps; stops = h }

  pub choice_stops : (p : Past ℚ) → choice_run (Some number_limit) u ≡ Err p →
      StopsAfter budget used t now (stop.Past p)
  choice_stops p h = stops_after (stop.Past p) (ap (λ o. o >>= done_run (Some number_limit) u) h)

  pub step_stops : (choice : Choice ℚ) (p : Past ℚ) → choice_run (Some number_limit) u ≡ Ok choice →
      done_run (Some number_limit) u choice ≡ Err p → StopsAfter budget used t now (stop.Past p)
  step_stops choice p h g = stops_after (stop.Past p) (ap (λ o. o >>= done_run (Some number_limit) u) h ∙ g)

  pub budget_stops : budget ≤ now → StopsAfter budget used t now stop.Spent
  budget_stops h = stops_after stop.Spent h
