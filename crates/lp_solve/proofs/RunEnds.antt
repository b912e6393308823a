-- What steps up to an end leave as it is, and where they end.
use Rattle.std.proofs.Common.{◌≡◌, ℕ, zero, suc, ◌+◌, ◌<◌, Option, Some, None, Result, Ok, Err, refl, subst, ◌∙◌}
use Rattle.spec_exact.specs.Fraction.{ℚ}
use Rattle.spec_pivot.specs.declared.status.Status.{Status}
use Rattle.spec_simplex.specs.declared.ends.Entering.{Entering}
use Rattle.spec_simplex.specs.declared.ends.Best.{Best}
use Rattle.spec_simplex.specs.declared.ends.PrimalEnd.{PrimalEnd}
use Rattle.spec_simplex.specs.declared.ends.PrimalEnd.TheVariants.{Optimal, Unbounded}
use Rattle.spec_simplex.specs.declared.ends.Choice.{Choice}
use Rattle.spec_simplex.specs.declared.ends.Choice.TheVariants.{End, Flip, Pivot}
use Rattle.spec_simplex.specs.declared.ends.RunStop.{RunStop}
use Rattle.spec_simplex.specs.declared.ends.RunStop.TheVariants as stop
use Rattle.spec_exact.specs.Run.{refused_as, difference_run}
use Rattle.spec_simplex.specs.Tableau.{Tableau, all_columns, lower_at, upper_at, status_at, or_zero}
use Rattle.spec_simplex.specs.Step.{directed, other_bound, entering, best_run, choice_at, choice_by, choice_of}
use Rattle.spec_simplex.specs.Step.{choice_run, moved_run, flip_way, flipped, flip_run, shifted_run, turned_run}
use Rattle.spec_simplex.specs.Step.{repriced_run, turned, exchanged, pivot_run}
use Rattle.spec_simplex.specs.Phases.{PrimalEnded, end_or_spent, end_or_next, run_from}
use Rattle.spec_simplex.proofs.RunParts.{then_ok, refused_ok}
use Rattle.lp_simplex.proofs.Entering.{MayEnter, may_enter}
use Rattle.lp_solve.specs.Ends.{IsInside}

-- the tableau u has as many positions and structural columns as t
pub record IsAsLarge (t u : Tableau) : Type 0 where
  pub rows : u.rows ≡ t.rows
  pub cols : u.cols ≡ t.cols

-- a tableau is as large as itself
as_large : (t : Tableau) → IsAsLarge t t
as_large t = record { rows = refl; cols = refl }

-- a tableau as large as one that is as large as a third is as large as the third
by_way_of : (t u v : Tableau) → IsAsLarge t u → IsAsLarge u v → IsAsLarge t v
by_way_of t u v p q = record { rows = q.rows ∙ p.rows; cols = q.cols ∙ p.cols }

module _ (limit : Option ℕ) where
  -- ---- one step
  -- a flip leaves a tableau as large
  flip_keeps : (t u : Tableau) (j : ℕ) → flip_run limit t j ≡ Ok u → IsAsLarge t u
  unfolding flip_run
  flip_keeps t u j h =
      let a = then_ok (difference_run limit (or_zero (upper_at t j)) (or_zero (lower_at t j))) _ u h in
      let b = then_ok (moved_run limit t j (directed (flip_way (status_at t j)) a.0) None) _ u a.2 in
      let z : flipped t j (other_bound (flip_way (status_at t j))) b.0 ≡ u = cc in
      subst (IsAsLarge t) z (record { rows = refl; cols = refl })

  -- a pivot leaves a tableau as large
  pivot_keeps : (t u : Tableau) (p j : ℕ) (theta : ℚ) (to : Status) → pivot_run limit t p j theta to ≡ Ok u →
      IsAsLarge t u
  unfolding pivot_run
  pivot_keeps t u p j theta to h =
      let a = then_ok (moved_run limit t j theta (Some p)) _ u h in
      let b = then_ok (shifted_run limit a.0 j theta) _ u a.2 in
      let c = then_ok (turned_run limit t.rows (all_columns t) t.entries p j) _ u b.2 in
      let d = then_ok (repriced_run limit (all_columns t) t.reduced c.0 p j) _ u c.2 in
      let z : exchanged (turned t b.0 c.0 d.0) p j to ≡ u = cc in
      subst (IsAsLarge t) z (record { rows = refl; cols = refl })

  -- ---- the column that is never stopped
  -- the choice of a step that the ratio test found is a flip or a pivot, so that as an end it would be inside
  is_no_end : (t : Tableau) (e : Entering) (x : Best ℚ) (place : Option ℕ) (end : PrimalEnd) →
      choice_at e x place ≡ End end → IsInside t (Some end)
  is_no_end t e x None end h = let z : ◌≡◌ {A = Choice ℚ} (Flip e.col) (End end) = h in cc
  is_no_end t e x (Some i) end h =
      let z : ◌≡◌ {A = Choice ℚ} (Pivot i e.col (directed e.direction x.ratio) x.to) (End end) = h in cc

  -- where a choice by the ratio test's outcome is an end, its column, if it is unbounded, is one of the tableau
  by_best : (t : Tableau) (e : Entering) (best : Option (Best ℚ)) (end : PrimalEnd) → e.col < all_columns t →
      choice_by e best ≡ End end → IsInside t (Some end)
  by_best t e None end l h = let z : Unbounded e.col e.direction ≡ end = cc in subst (λ end. IsInside t (Some end)) z l
  by_best t e (Some x) end l h = is_no_end t e x x.place end h

  -- where a choice by the entering column is an end, its column, if it is unbounded, is one of the tableau
  by_entering : (t : Tableau) (o : Option Entering) (end : PrimalEnd) → entering t ≡ o →
      choice_of limit t o ≡ Ok (End end) → IsInside t (Some end)
  by_entering t None end h g = let z : Optimal ≡ end = cc in subst (λ end. IsInside t (Some end)) z tt
  by_entering t (Some e) end h g =
      let b = then_ok (best_run limit t e) (λ best. Ok (choice_by e best)) (End end) g in
      let z : choice_by e b.0 ≡ End end = cc in
      let m : MayEnter t (all_columns t) e = may_enter t e h in
      by_best t e b.0 end m.inside z

  -- where the primal step ends, the column of its end, if it is unbounded, is one of the tableau
  end_inside : (t : Tableau) (end : PrimalEnd) → choice_run limit t ≡ Ok (End end) → IsInside t (Some end)
  unfolding choice_run
  end_inside t end h = by_entering t (entering t) end refl h

  -- ---- the run
  -- a run from t ended so: with a tableau as large as t, and if unbounded, by a column of that tableau
  pub record IsEnd (t : Tableau) (e : PrimalEnded) : Type 0 where
    pub large : IsAsLarge t e.tableau
    pub inside : IsInside e.tableau (Some e.end)

  -- an end from a tableau as large as t is one from t
  on_from : (t u : Tableau) (e : PrimalEnded) → IsAsLarge t u → IsEnd u e → IsEnd t e
  on_from t u e p q = record { large = by_way_of t u e.tableau p q.large; inside = q.inside }

  -- where the primal step ends at t, the run ends with this tableau and count
  ends_at : (t : Tableau) (used : ℕ) (e : PrimalEnded) (end : PrimalEnd) → choice_run limit t ≡ Ok (End end) →
      record { end = end; tableau = t; used = used } ≡ e → IsEnd t e
  ends_at t used e end c z = subst (IsEnd t) z (record { large = as_large t; inside = end_inside t end c })

  -- where the run from t ends without a step, by its choice at t, its end is one from t
  ends_here : (t : Tableau) (used : ℕ) (e : PrimalEnded) (choice : Choice ℚ) → choice_run limit t ≡ Ok choice →
      end_or_spent t used choice ≡ Ok e → IsEnd t e
  ends_here t used e (End end) c h =
      ends_at t used e end c (let z : ◌≡◌ {A = PrimalEnded} (record { end = end; tableau = t; used = used }) e = cc in
      z)
  ends_here t used e (Flip j) c h = let z : ◌≡◌ {A = Result PrimalEnded (RunStop ℚ)} (Err stop.Spent) (Ok e) = h in cc
  ends_here t used e (Pivot p j theta to) c h =
      let z : ◌≡◌ {A = Result PrimalEnded (RunStop ℚ)} (Err stop.Spent) (Ok e) = h in cc

  -- a primal run from t ends with a tableau as large as t, and if unbounded, by a column of it
  pub run_ends : (left used : ℕ) (t : Tableau) (e : PrimalEnded) → run_from limit left used t ≡ Ok e → IsEnd t e
  unfolding run_from
  run_ends zero used t e h =
      let o = then_ok (refused_as stop.Past (choice_run limit t)) (end_or_spent t used) e h in
      ends_here t used e o.0 (refused_ok stop.Past (choice_run limit t) o.0 o.1) o.2
  run_ends (suc left) used t e h =
      let o = then_ok (refused_as stop.Past (choice_run limit t))
      (end_or_next limit t used (λ u. run_from limit left (used + 1) u)) e h in
      go o.0 (refused_ok stop.Past (choice_run limit t) o.0 o.1) o.2 (λ u g. run_ends left (used + 1) u e g)
    where
      go : (choice : Choice ℚ) → choice_run limit t ≡ Ok choice → end_or_next limit t used
          (λ u. run_from limit left (used + 1) u) choice ≡ Ok e
          → ((u : Tableau) → run_from limit left (used + 1) u ≡ Ok e → IsEnd u e) → IsEnd t e
      go (End end) c h more = ends_here t used e (End end) c h
      go (Flip j) c h more =
          let o = then_ok (refused_as stop.Past (flip_run limit t j)) (λ u. run_from limit left (used + 1) u) e h in
          on_from t o.0 e (flip_keeps t o.0 j (refused_ok stop.Past (flip_run limit t j) o.0 o.1)) (more o.0 o.2)
      go (Pivot p j theta to) c h more =
          let o = then_ok (refused_as stop.Past (pivot_run limit t p j theta to))
          (λ u. run_from limit left (used + 1) u) e h in
          on_from t o.0 e (pivot_keeps t o.0 p j theta to (refused_ok stop.Past (pivot_run limit t p j theta to) o.0
          o.1)) (more o.0 o.2)

  -- the column with which a primal run ends as unbounded is one of the tableau that it leaves
  pub run_inside : (left used : ℕ) (t : Tableau) (end : PrimalEnd) (u : Tableau) (after : ℕ) →
      run_from limit left used t ≡ Ok (record { end = end; tableau = u; used = after }) → IsInside u (Some end)
  run_inside left used t end u after h =
      let e : IsEnd t (record { end = end; tableau = u; used = after }) = run_ends left used t
      (record { end = end; tableau = u; used = after }) h in
      e.inside
