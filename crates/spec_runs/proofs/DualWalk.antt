-- Dual steps up to an end: what holds of the first tableau holds of the last.
use Rattle.std.proofs.Common.{◌≡◌, ℕ, zero, suc, ◌+◌, Option, Result, Ok, sym, ap, ◌∙◌, subst, subst₂}
use Rattle.spec_exact.specs.Fraction.{ℚ}
use Rattle.spec_pivot.specs.declared.status.Way.{Way}
use Rattle.spec_pivot.specs.Tableau.{Matrix}
use Rattle.spec_pivot.specs.Simplex.{Bounds}
use Rattle.spec_simplex.specs.declared.ends.RunStop.{RunStop}
use Rattle.spec_simplex.specs.declared.ends.RunStop.TheVariants as stop
use Rattle.spec_exact.specs.Run.{refused_as}
use Rattle.spec_simplex.specs.Tableau.{Tableau}
use Rattle.spec_simplex.specs.Tables.{table_of}
use Rattle.spec_simplex.proofs.RunParts.{then_ok, refused_ok}
use Rattle.spec_pivot.specs.Dual.{bound_behind, Leaves, IsCheapest, after_dual}
use Rattle.spec_simplex.specs.declared.ends.DualChoice.{DualChoice}
use Rattle.spec_simplex.specs.declared.ends.DualChoice.TheVariants.{End, Pivot}
use Rattle.spec_runs.specs.Based.{IsReady, IsDualStep, IsDualMeant}
use Rattle.spec_simplex.specs.Dual.{dual_choice_run, dual_pivot_run, DualEnded}
use Rattle.spec_simplex.specs.Dual.{dual_end_or_spent, dual_end_or_next, dual_from}
use Rattle.spec_exact.proofs.Results.{ok_same, err_not_ok}
use Rattle.spec_runs.proofs.Stepped.{choice_meant, pivot_ready, pivot_table}

module _ (limit : Option ℕ) (m n : ℕ) (f : Matrix) (cost : ℕ → ℚ) (b : Bounds) where
  own_ready : (t : Tableau) → IsReady m n f cost b t → IsReady t.rows t.cols f cost b t
  own_ready t s = subst₂ (λ m n. IsReady m n f cost b t) (sym s.based.tableau.rows) (sym s.based.tableau.cols) s

  -- what the run chooses in a ready tableau is an end or a step of the dual method
  pub ready_meant : (t : Tableau) (choice : DualChoice) → IsReady m n f cost b t → dual_choice_run limit t ≡ Ok choice →
      IsDualMeant m n b t choice
  ready_meant t choice s h =
      subst₂ (λ m n. IsDualMeant m n b t choice) s.based.tableau.rows s.based.tableau.cols
      (choice_meant limit f cost b t (own_ready t s).based choice h)

  -- a dual pivot of the run takes a ready tableau to a ready one
  pub ready_next : (t u : Tableau) (p j : ℕ) (way : Way) → IsReady m n f cost b t → IsDualStep m n b t p j way →
      dual_pivot_run limit t p j (bound_behind way) ≡ Ok u → IsReady m n f cost b u
  ready_next t u p j way s d h =
      subst₂ (λ m n. IsReady m n f cost b u) s.based.tableau.rows s.based.tableau.cols
      (pivot_ready limit f cost b t (own_ready t s).based (own_ready t s).feasible p j way
      (subst₂ (λ m n. IsDualStep m n b t p j way) (sym s.based.tableau.rows) (sym s.based.tableau.cols) d) u h)

  -- a dual pivot of the run in a ready tableau leaves the table that `after_dual` gives
  pub next_table : (t u : Tableau) (p j : ℕ) (way : Way) → IsReady m n f cost b t →
      (d : IsDualStep m n b t p j way) → dual_pivot_run limit t p j (bound_behind way) ≡ Ok u
      → table_of u ≡ after_dual m (table_of t) way p j d.bound
  next_table t u p j way s d h =
      pivot_table limit f cost b t (own_ready t s).based (own_ready t s).feasible p j way own u h
      ∙ ap (λ m. after_dual m (table_of t) way p j d.bound) s.based.tableau.rows
    where
      own : IsDualStep t.rows t.cols b t p j way
      own = record {
        bound = d.bound;
        leaves = subst (λ m. Leaves m b (table_of t) way p d.bound) (sym s.based.tableau.rows) d.leaves;
        cheapest =
            subst₂ (λ m n. IsCheapest (n + m + m) b (table_of t) way p j)
            (sym s.based.tableau.rows) (sym s.based.tableau.cols) d.cheapest;
      }

  -- what is known of an end
  pub record IsDualEnd (e : DualEnded) : Type 0 where
    pub after : IsReady m n f cost b e.tableau
    pub end : IsDualMeant m n b e.tableau (End e.end)

  -- where the dual choice at a ready tableau ends the steps, the end is one of the dual method, and the tableau is
  -- ready still
  ends_here : (t : Tableau) (used : ℕ) (e : DualEnded) (choice : DualChoice) → IsReady m n f cost b t →
      dual_choice_run limit t ≡ Ok choice → dual_end_or_spent t used choice ≡ Ok e → IsDualEnd e
  ends_here t used e (End end) s c h =
      subst IsDualEnd (ok_same (record { end = end; tableau = t; used = used }) e h)
      (record { after = s; end = ready_meant t (End end) s c })
  ends_here t used e (Pivot p j to) s c h = err_not_ok {E = RunStop ℚ} stop.Spent e h

  goes_on : (t : Tableau) (used : ℕ) (e : DualEnded) (next : Tableau → Result DualEnded (RunStop ℚ))
      (choice : DualChoice) → IsReady m n f cost b t →
      dual_choice_run limit t ≡ Ok choice → dual_end_or_next limit t used next choice ≡ Ok e
      → ((u : Tableau) → IsReady m n f cost b u → next u ≡ Ok e → IsDualEnd e) → IsDualEnd e
  goes_on t used e next (End end) s c h more = ends_here t used e (End end) s c h
  goes_on t used e next (Pivot p j to) s c h more =
      let o = then_ok (refused_as stop.Past (dual_pivot_run limit t p j to)) next e h in
      let d = ready_meant t (Pivot p j to) s c in
      more o.0 (ready_next t o.0 p j d.0 s d.1
      (ap (dual_pivot_run limit t p j) (sym d.2) ∙ refused_ok stop.Past (dual_pivot_run limit t p j to) o.0 o.1)) o.2

  -- dual steps from a ready tableau end, if they do, at an end of the dual method
  pub dual_ends : (left used : ℕ) (t : Tableau) (e : DualEnded) → IsReady m n f cost b t →
      dual_from limit left used t ≡ Ok e → IsDualEnd e
  unfolding dual_from
  dual_ends zero used t e s h =
      let o = then_ok (refused_as stop.Past (dual_choice_run limit t)) (dual_end_or_spent t used) e h in
      ends_here t used e o.0 s (refused_ok stop.Past (dual_choice_run limit t) o.0 o.1) o.2
  dual_ends (suc left) used t e s h =
      let o =
      then_ok (refused_as stop.Past (dual_choice_run limit t))
      (dual_end_or_next limit t used (λ u. dual_from limit left (used + 1) u)) e h in
      goes_on t used e (λ u. dual_from limit left (used + 1) u) o.0 s
      (refused_ok stop.Past (dual_choice_run limit t) o.0 o.1) o.2
      (λ u r g. dual_ends left (used + 1) u e r g)
