-- Steps by the first of them.
use Rattle.std.proofs.Common.{◌≡◌, ◌≢◌, ℕ, zero, suc, ◌+◌, ◌-◌, ◌<◌, None, Result, Ok, refl}
use Rattle.std.proofs.Common.{sym, ap, ◌∙◌, subst, arith}
use Rattle.spec_exact.specs.Fraction.{ℚ}
use Rattle.spec_simplex.specs.declared.ends.Choice.{Choice}
use Rattle.spec_simplex.specs.declared.ends.Choice.TheVariants as choice
use Rattle.spec_simplex.specs.declared.ends.PrimalEnd.{PrimalEnd}
use Rattle.spec_simplex.specs.declared.ends.RunStop.{RunStop}
use Rattle.spec_simplex.specs.declared.ends.RunStop.TheVariants as stop
use Rattle.spec_exact.specs.Run.{◌>>=◌, refused_as}
use Rattle.spec_simplex.specs.Step.{choice_run}
use Rattle.spec_simplex.specs.Tableau.{Tableau}
use Rattle.spec_simplex.specs.Phases.{PrimalEnded, end_or_spent, end_or_next, done_run, run_from}
use Rattle.lp_rows.specs.declared.tableau.choice.Step.{Step}
use Rattle.lp_rows.specs.declared.tableau.choice.Step.TheVariants.{End, Flip, Pivot}
use Rattle.lp_rows.specs.declared.tableau.tableau.RowTableau.{RowTableau}
use Rattle.lp_rows.specs.Shows.{IsReached, Shows}
use Rattle.lp_rows.specs.Steps.{step_of}
use Rattle.lp_row_runs.specs.Steps.{steps_from, ComesTo, EndsAt, Keeps}
use Rattle.lp_row_runs.proofs.Reached.{done_given, step_reached}

-- a step that is no end
abbrev pub GoesOn : Step → Type 0
GoesOn step = (end : PrimalEnd) → step ≢ End end

-- a choice whose step is an end is the choice of that end
end_of : (c : Choice ℚ) (end : PrimalEnd) → step_of c ≡ End end → c ≡ choice.End end
end_of (choice.End x) end e = let z : x ≡ end = cc in ap choice.End z
end_of (choice.Flip j) end e = let z : ◌≡◌ {A = Step} (Flip j) (End end) = e in cc
end_of (choice.Pivot p j theta to) end e = let z : ◌≡◌ {A = Step} (Pivot p j to) (End end) = e in cc

module _ (t : Tableau) (c : Choice ℚ) (h : choice_run None t ≡ Ok c) where
  -- where the choice at t is an end, a run from t ends at once with it
  ends_by : (left used : ℕ) (end : PrimalEnd) → c ≡ choice.End end →
      run_from None left used t ≡ Ok (record { end = end; tableau = t; used = used })
  unfolding run_from
  ends_by zero used end e = ap (λ o. refused_as stop.Past o >>= end_or_spent t used) (h ∙ ap Ok e)
  ends_by (suc left) used end e =
      ap (λ o. refused_as stop.Past o >>= end_or_next None t used (λ u. run_from None left (used + 1) u)) (h ∙ ap Ok e)

  -- where a choice is no end, what follows it in a run is what follows the tableau after it
  next_by : (used : ℕ) (next : Tableau → Result PrimalEnded (RunStop ℚ)) (c : Choice ℚ) → GoesOn (step_of c) →
      end_or_next None t used next c ≡ (refused_as stop.Past (done_run None t c) >>= next)
  next_by used next (choice.End end) n = absurd (n end refl)
  next_by used next (choice.Flip j) n = refl
  next_by used next (choice.Pivot p j theta to) n = refl

  -- where the choice at t is no end and leads to u, a run from t with a step left is the run from u with one step more
  -- used
  on_by : (left used : ℕ) (u : Tableau) → GoesOn (step_of c) → done_run None t c ≡ Ok u →
      run_from None (suc left) used t ≡ run_from None left (used + 1) u
  unfolding run_from
  on_by left used u n d =
      ap (λ o. refused_as stop.Past o >>= end_or_next None t used (λ u. run_from None left (used + 1) u)) h
      ∙ next_by used (λ u. run_from None left (used + 1) u) c n
      ∙ ap (λ o. refused_as stop.Past o >>= (λ u. run_from None left (used + 1) u)) d

  -- where the choice at t is no end and leads to u, and steps are left, the steps from t are those from u with one step
  -- more used
  one_step : (budget used : ℕ) (u : Tableau) → GoesOn (step_of c) → used < budget → done_run None t c ≡ Ok u →
      steps_from budget used t ≡ steps_from budget (used + 1) u
  one_step budget used u n l d =
      let z : budget - used ≡ suc (budget - (used + 1)) = omega (arith, l) in
      ap (λ left. run_from None left used t) z ∙ on_by (budget - (used + 1)) used u n d

-- ---- with rows, of which some step is chosen
module _ {T : Type 0} (value : T → ℕ) (budget used : ℕ) (t : Tableau) (r : RowTableau T) (reached : IsReached t)
    (shown : Shows value r t) where
  -- where nothing is made, the steps are the same
  pub stays : ComesTo value budget used t r used
  stays = record { tableau = t; reached = reached; shown = shown; same = refl }

  module _ (step : Step) (chosen : (c : Choice ℚ) × (choice_run None t ≡ Ok c) × (step_of c ≡ step)) where
    -- where the step that is chosen at t is an end, the steps from t end at once with it, by the rows r
    pub ends : (end : PrimalEnd) → step ≡ End end → EndsAt value budget used t r used end
    ends end e = record {
      tableau = t;
      reached = reached;
      shown = shown;
      ends = ends_by t chosen.0 chosen.1 (budget - used) used end (end_of chosen.0 end (chosen.2 ∙ e));
    }

    -- where the step that is chosen at t is no end, a step is left, and it makes the rows s, the steps from t go on
    -- from s with one more used
    pub makes : (s : RowTableau T) → GoesOn step → used < budget →
        ((u : Tableau) (c : Choice ℚ) → choice_run None t ≡ Ok c → step_of c ≡ step → done_run None t c ≡ Ok u →
        Shows value s u) → ComesTo value budget used t s (used + 1)
    makes s n l more = record {
      tableau = u;
      reached = step_reached t u chosen.0 reached chosen.1 done;
      shown = more u chosen.0 chosen.1 chosen.2 done;
      same = one_step t chosen.0 chosen.1 budget used u (subst GoesOn (sym chosen.2) n) l done;
    }
      where
        u : Tableau
        u = (done_given t chosen.0).0

        done : done_run None t chosen.0 ≡ Ok u
        done = (done_given t chosen.0).1

-- ---- one after the other
module _ {T : Type 0} (value : T → ℕ) (budget used : ℕ) (t : Tableau) (r : RowTableau T) (now : ℕ)
    (c : ComesTo value budget used t r now) where
  -- where steps lead from t to a second tableau, and from that to rows s, they lead from t to the rows s
  pub then_comes : (s : RowTableau T) (later : ℕ) → ComesTo value budget now c.tableau s later →
      ComesTo value budget used t s later
  then_comes s later d =
      record { tableau = d.tableau; reached = d.reached; shown = d.shown; same = c.same ∙ d.same }

  -- where steps lead from t to a second tableau, and end from that at rows s, they end from t at the rows s
  pub then_ends : (s : RowTableau T) (later : ℕ) (end : PrimalEnd) →
      EndsAt value budget now c.tableau s later end → EndsAt value budget used t s later end
  then_ends s later end d =
      record { tableau = d.tableau; reached = d.reached; shown = d.shown; ends = c.same ∙ d.ends }

-- ---- the rows are whole, and as many

-- two steps that keep the rows whole, and as many, keep them so together
pub kept : {T : Type 0} (value : T → ℕ) (r s v : RowTableau T) → Keeps value r s → Keeps value s v → Keeps value r v
kept value r s v h k = record { whole = k.whole; rows = k.rows ∙ h.rows; cols = k.cols ∙ h.cols }
