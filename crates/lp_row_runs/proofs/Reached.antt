-- Without a limit nothing is refused, and what a step makes of a reached tableau is reached.
--
-- `done_given`: without a limit each choice gives a tableau.
-- `second_given`: without a limit the change to phase two gives a tableau.
-- `start_without`: a start that a limit does not refuse is the start without a limit.
-- `start_reached`: the start of a proper form is a reached tableau.
-- `step_reached`: the tableau after a chosen step from a reached tableau is reached.
-- `second_reached`: the change to phase two makes a reached tableau of a reached one, unless an artificial is not 0.
use Rattle.std.proofs.Common.{◌≡◌, ℕ, ◌+◌, ◌≤◌, length, Option, None, Ok, Err, false, refl, sym}
use Rattle.std.proofs.Common.{◌∙◌, subst, subst₂, ⊎_elim}
use Rattle.spec_exact.specs.Fraction.{ℚ}
use Rattle.spec_exact.specs.Run.{Run}
use Rattle.spec_pivot.specs.Tableau.{Matrix}
use Rattle.spec_pivot.specs.Simplex.{Bounds}
use Rattle.spec_simplex.specs.declared.ends.Choice.{Choice}
use Rattle.spec_simplex.specs.declared.ends.Choice.TheVariants.{End, Flip, Pivot}
use Rattle.spec_simplex.specs.Form.{Form}
use Rattle.spec_simplex.specs.Start.{start_of}
use Rattle.spec_simplex.specs.Step.{choice_run, flip_run, pivot_run}
use Rattle.spec_simplex.specs.Tableau.{Tableau}
use Rattle.spec_simplex.specs.Phases.{done_run, is_stuck, phase_two_run}
use Rattle.spec_simplex.specs.Tables.{IsTableauOf, IsWithinBounds, StepsTo}
use Rattle.spec_simplex.specs.Begins.{IsProper, Begins}
use Rattle.spec_simplex.proofs.FirstTableau.{start_begins}
use Rattle.spec_simplex.proofs.LimitPhases.{two_agrees}
use Rattle.spec_simplex.proofs.LimitStart.{flip_agrees, pivot_agrees, start_agrees}
use Rattle.spec_simplex.proofs.PhaseTwo.{second_phase}
use Rattle.spec_simplex.proofs.LeastIndexSteps.{choice_is_meant}
use Rattle.spec_runs.proofs.PhaseSteps.{given}
use Rattle.lp_rows.specs.Shows.{IsReached}

-- ---- nothing is refused
pub done_given : (t : Tableau) (c : Choice ℚ) → (u : Tableau) × (done_run None t c ≡ Ok u)
done_given t (End end) = (t, refl)
done_given t (Flip j) = given (flip_run None t j) (flip_agrees None t j).exact
done_given t (Pivot p j theta to) = given (pivot_run None t p j theta to) (pivot_agrees None t p j theta to).exact

pub second_given : (f : Form) (t : Tableau) → (u : Tableau) × (phase_two_run None f t ≡ Ok u)
second_given f t = given (phase_two_run None f t) (two_agrees None f t).exact

-- a start at a limit is the one without
pub start_without : (limit : Option ℕ) (f : Form) (t : Tableau) → start_of limit f ≡ Ok t → start_of None f ≡ Ok t
start_without limit f t e =
    ⊎_elim
    (λ z. sym z ∙ e)
    (λ p. let z : ◌≡◌ {A = Run Tableau} (Ok t) (Err p.0) = sym e ∙ p.1 in cc)
    ((start_agrees limit f).same)

-- ---- what is reached

-- a tableau of given equations, costs and bounds, with its values within these, is one that a run reaches
reached_of : (m n : ℕ) (f : Matrix) (cost : ℕ → ℚ) (b : Bounds) (u : Tableau) → IsTableauOf m n f cost b u →
    IsWithinBounds m n b u → IsReached u
reached_of m n f cost b u s w =
    record {
      equations = f;
      cost = cost;
      bounds = b;
      tableau = subst₂ (λ m n. IsTableauOf m n f cost b u) (sym s.rows) (sym s.cols) s;
      within = subst₂ (λ m n. IsWithinBounds m n b u) (sym s.rows) (sym s.cols) w;
    }

pub start_reached : (limit : Option ℕ) (f : Form) (t : Tableau) → IsProper f → start_of limit f ≡ Ok t → IsReached t
start_reached limit f t proper e =
    let s : Begins f t = start_begins limit f t proper e in
    reached_of f.rows f.cols _ _ _ t s.tableau s.within

pub step_reached : (t u : Tableau) (c : Choice ℚ) → IsReached t → choice_run None t ≡ Ok c → done_run None t c ≡ Ok u →
    IsReached u
step_reached t u c r h = by c h
  where
    of_step : StepsTo t.rows t.cols r.equations r.cost r.bounds t u → IsReached u
    of_step s = reached_of t.rows t.cols r.equations r.cost r.bounds u s.after s.within

    by : (c : Choice ℚ) → choice_run None t ≡ Ok c → done_run None t c ≡ Ok u → IsReached u
    by (End end) h d = let z : t ≡ u = cc in subst IsReached z r
    by (Flip j) h d =
        of_step (choice_is_meant None t.rows t.cols r.equations r.cost r.bounds t (Flip j) r.tableau r.within h u d)
    by (Pivot p j theta to) h d =
        of_step
        (choice_is_meant None t.rows t.cols r.equations r.cost r.bounds t (Pivot p j theta to) r.tableau r.within h u d)

pub second_reached : (f : Form) (t u : Tableau) → IsReached t → is_stuck t ≡ false →
    length f.cost ≤ t.cols + t.rows + t.rows → phase_two_run None f t ≡ Ok u → IsReached u
second_reached f t u r free few h =
    let s = second_phase None f t.rows t.cols r.equations r.cost r.bounds t u r.tableau r.within free few h in
    reached_of t.rows t.cols _ _ _ u s.tableau s.within
