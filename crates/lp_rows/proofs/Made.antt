-- The flip and the pivot of a choice, as rows show them.
use Rattle.std.proofs.Common.{◌≡◌, ℕ, None, Ok, sym, ◌∙◌, subst}
use Rattle.spec_exact.specs.Fraction.{ℚ}
use Rattle.spec_pivot.specs.declared.status.Status.{Status}
use Rattle.spec_simplex.specs.declared.ends.Choice.{Choice}
use Rattle.spec_simplex.specs.declared.ends.Choice.TheVariants as choice
use Rattle.spec_simplex.specs.Tableau.{Tableau}
use Rattle.spec_simplex.specs.Step.{choice_run}
use Rattle.spec_simplex.specs.Phases.{done_run}
use Rattle.spec_simplex.specs.Tables.{StepsTo}
use Rattle.spec_simplex.proofs.LeastIndexSteps.{choice_is_meant}
use Rattle.lp_rows.specs.declared.tableau.choice.Step.{Step}
use Rattle.lp_rows.specs.declared.tableau.choice.Step.TheVariants.{End, Flip, Pivot}
use Rattle.lp_rows.specs.declared.tableau.tableau.RowTableau.{RowTableau}
use Rattle.lp_rows.specs.Shows.{IsWhole, IsReached, Shows}
use Rattle.lp_rows.specs.Steps.{step_of}
use Rattle.lp_rows.specs.Changes.{IsFlipped, IsPivoted}
use Rattle.lp_rows.proofs.AfterChoice.{left}
use Rattle.lp_rows.proofs.FlippedRows.{flip_shows}
use Rattle.lp_rows.proofs.Pivoted.{pivot_shows}

module _ {T : Type 0} (value : T → ℕ) (r s : RowTableau T) (t u : Tableau) (reached : IsReached t)
    (whole : IsWhole value r) (shows : Shows value r t) where
  flip_is : (j : ℕ) → choice_run None t ≡ Ok (choice.Flip j) → done_run None t (choice.Flip j) ≡ Ok u →
      IsFlipped value j r s → Shows value s u
  flip_is j h d f =
      let g = reached.tableau in
      let steps : StepsTo t.rows t.cols reached.equations reached.cost reached.bounds t u =
      choice_is_meant None t.rows t.cols reached.equations reached.cost reached.bounds t
      (choice.Flip j) g reached.within h
      u d in
      flip_shows value r s t u reached.equations reached.cost reached.bounds g.tableau g.bounds j
      (left t g.whole reached.equations reached.cost reached.bounds g.tableau reached.within g.bounds
      (choice.Flip j) h u d)
      t.rows t.cols steps.after whole shows f

  pivot_is : (p j : ℕ) (theta : ℚ) (to : Status) → choice_run None t ≡ Ok (choice.Pivot p j theta to) →
      done_run None t (choice.Pivot p j theta to) ≡ Ok u → IsPivoted value p j to r s → Shows value s u
  pivot_is p j theta to h d f =
      let g = reached.tableau in
      let steps : StepsTo t.rows t.cols reached.equations reached.cost reached.bounds t u =
      choice_is_meant None t.rows t.cols reached.equations reached.cost reached.bounds t (choice.Pivot p j theta to) g
      reached.within h u d in
      pivot_shows value r s t u reached.equations reached.cost reached.bounds g.tableau g.whole g.bounds p j theta to
      (left t g.whole reached.equations reached.cost reached.bounds g.tableau reached.within g.bounds
      (choice.Pivot p j theta to) h u d)
      t.rows t.cols steps.after whole shows f

  -- where the step that t chooses is the flip of j, and doing it gives u, rows with this flip done show u
  pub flip_made : (j : ℕ) (step : Step) (c : Choice ℚ) → step ≡ Flip j → choice_run None t ≡ Ok c → step_of c ≡ step →
      done_run None t c ≡ Ok u → IsFlipped value j r s → Shows value s u
  flip_made j step (choice.End end) e h k d f = let z : End end ≡ Flip j = k ∙ e in cc
  flip_made j step (choice.Flip i) e h k d f =
      let z : Flip i ≡ Flip j = k ∙ e in
      let same : i ≡ j = cc in
      flip_is i h d (subst (λ j. IsFlipped value j r s) (sym same) f)
  flip_made j step (choice.Pivot p i theta to) e h k d f = let z : Pivot p i to ≡ Flip j = k ∙ e in cc

  -- where the step that t chooses is the pivot at p and j, and doing it gives u, rows with this pivot done show u
  pub pivot_made : (p j : ℕ) (to : Status) (step : Step) (c : Choice ℚ) → step ≡ Pivot p j to →
      choice_run None t ≡ Ok c → step_of c ≡ step → done_run None t c ≡ Ok u → IsPivoted value p j to r s →
      Shows value s u
  pivot_made p j to step (choice.End end) e h k d f = let z : End end ≡ Pivot p j to = k ∙ e in cc
  pivot_made p j to step (choice.Flip i) e h k d f = let z : Flip i ≡ Pivot p j to = k ∙ e in cc
  pivot_made p j to step (choice.Pivot p' j' theta to') e h k d f =
      let z : Pivot p' j' to' ≡ Pivot p j to = k ∙ e in
      let same : p' ≡ p = cc in
      let same' : j' ≡ j = cc in
      let same'' : to' ≡ to = cc in
      pivot_is p' j' theta to' h d
      (subst (λ p. IsPivoted value p j' to' r s) (sym same)
      (subst (λ j. IsPivoted value p j to' r s) (sym same')
      (subst (λ to. IsPivoted value p j to r s) (sym same'') f)))
