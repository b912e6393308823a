-- The tableau of a basis, its fit and the dual steps at a limit beside those without one.
use Rattle.std.proofs.Common.{◌≡◌, ℕ, zero, suc, ◌+◌, ◌-◌, List, Option, Some}
use Rattle.std.proofs.Common.{None, Result, Ok, Err, Bool, true, false, nat_le}
use Rattle.spec_exact.specs.Fraction.{ℚ, 0ℚ, abs_ℚ}
use Rattle.spec_pivot.specs.declared.status.Status.{Status}
use Rattle.spec_pivot.specs.declared.status.Way.{Way}
use Rattle.spec_simplex.specs.declared.ends.RunStop.{RunStop}
use Rattle.spec_simplex.specs.declared.ends.RunStop.TheVariants as stop
use Rattle.spec_simplex.specs.Form.{Form}
use Rattle.spec_simplex.specs.Tableau.{Tableau, all_columns, basic_at, entry_at, value_at}
use Rattle.spec_simplex.specs.Tableau.{reduced_at, status_at, lower_at, upper_at, stand, is_basic}
use Rattle.spec_simplex.proofs.Refusals.{Agrees, as_it_is, agrees_ok, agrees_err, agrees_then, agrees_if, agrees_steps}
use Rattle.spec_simplex.proofs.Refusals.{agrees_as, agrees_difference, agrees_quotient, agrees_order, agrees_less}
use Rattle.spec_simplex.proofs.LimitStart.{priced_agrees, flip_agrees, pivot_agrees, turned_agrees, ok, also}
use Rattle.spec_simplex.proofs.LimitPhases.{spent_agrees}
use Rattle.spec_simplex.specs.declared.ends.StartStop.{StartStop}
use Rattle.spec_simplex.specs.declared.ends.StartStop.TheVariants as start
use Rattle.spec_simplex.specs.declared.ends.Cheapest.{Cheapest}
use Rattle.spec_simplex.specs.declared.ends.Leaving.{Leaving}
use Rattle.spec_simplex.specs.declared.ends.DualChoice.{DualChoice}
use Rattle.spec_simplex.specs.declared.ends.DualChoice.TheVariants.{End, Pivot}
use Rattle.spec_simplex.specs.Dual.{Reached, flip_by, flip_next, flips_run, place_of, dual_way_at, cheaper_run}
use Rattle.spec_simplex.specs.Dual.{cheapest_by, cheapest_with, cheapest_run, dual_choice_of, dual_choice_run}
use Rattle.spec_simplex.specs.Dual.{dual_pivot_run, DualEnded, dual_end_or_spent, dual_end_or_next, dual_from, dual_run}
use Rattle.spec_simplex.specs.Eliminate.{basis_at, Elimination, unsolved, open_below, solved_at, solved_by, solved_run}
use Rattle.spec_simplex.specs.Eliminate.{eliminate_run, with_basis, position_run, valued_run, filled_run, start_from}
use Rattle.spec_simplex.specs.Fit.{below_lower, above_upper, outside_by, outside_run, leaving_at}
use Rattle.spec_simplex.specs.Fit.{leaving_with, leaving_run, needs_flip_at, fit_run}

-- two runs agree that both end because the basis is singular
singular_agrees : {A : Type 0} → Agrees {A = A} start.Past (Err start.Singular) (Err start.Singular)
singular_agrees =
    agrees_err start.Past start.Singular (λ p e. let z : ◌≡◌ {A = StartStop ℚ} start.Singular (start.Past p) = e in cc)

module _ (limit : Option ℕ) where
  -- ---- the tableau of a basis
  solved_agrees : (f : Form) (e : Elimination) (j : ℕ) (p : Option ℕ) →
      Agrees start.Past (solved_by limit f e j p) (solved_by None f e j p)
  solved_agrees f e j None = singular_agrees
  solved_agrees f e j (Some p) =
      agrees_as start.Past (solved_at limit f e j p) (solved_at None f e j p)
      (also _ _ _ _ (turned_agrees limit f.rows (f.cols + f.rows + f.rows) e.rows p j) (λ rows. ok _))

  -- without a limit elimination is never refused; at a limit it is the same, or it is refused
  eliminate_agrees : (f : Form) (basis : List Status) →
      Agrees start.Past (eliminate_run limit f basis) (eliminate_run None f basis)
  unfolding eliminate_run
  eliminate_agrees f basis =
      agrees_steps start.Past (f.cols + f.rows) _ _ (unsolved f)
      (λ j e. agrees_if start.Past (is_basic (basis_at basis j)) (solved_run limit f e j) (Ok e)
      (solved_run None f e j) (Ok e) (solved_agrees f e j (open_below e j f.rows)) (agrees_ok start.Past e))

  -- without a limit the value of a position is never refused; at a limit it is the same, or it is refused
  position_agrees : (t : Tableau) (i : ℕ) → Agrees as_it_is (position_run limit t i) (position_run None t i)
  position_agrees t i =
      agrees_steps as_it_is (all_columns t) _ _ 0ℚ (λ k v. agrees_if as_it_is
      (is_basic (status_at t k)) _ _ _ _ (ok v) (agrees_less limit (entry_at t i k) (value_at t k) v))

  -- without a limit the values are never refused; at a limit they are the same, or they are refused
  valued_agrees : (t : Tableau) → Agrees as_it_is (valued_run limit t) (valued_run None t)
  unfolding valued_run
  valued_agrees t =
      agrees_steps as_it_is t.rows _ _ t.value (λ i values. also _ _ _ _ (position_agrees t i) (λ v. ok _))

  -- without a limit the tableau that is filled with values and reduced costs is never refused; at a limit it is the
  -- same, or it is refused
  filled_agrees : (f : Form) (t : Tableau) → Agrees as_it_is (filled_run limit f t) (filled_run None f t)
  filled_agrees f t =
      also _ _ _ _ (valued_agrees t) (λ values. also _ _ _ _ (priced_agrees limit t f.cost) (λ reduced. ok _))

  -- without a limit the start from a basis is never refused; at a limit it is the same, or it is refused
  pub from_agrees : (f : Form) (basis : List Status) →
      Agrees start.Past (start_from limit f basis) (start_from None f basis)
  unfolding start_from
  from_agrees f basis =
      agrees_then start.Past (eliminate_run limit f basis) (eliminate_run None f basis) _ _ (eliminate_agrees f basis)
      (λ e. agrees_as start.Past (filled_run limit f (with_basis f basis e))
      (filled_run None f (with_basis f basis e)) (filled_agrees f (with_basis f basis e)))

  -- ---- the fit
  below_agrees : (l : Option ℚ) (v : ℚ) → Agrees as_it_is (below_lower limit l v) (below_lower None l v)
  below_agrees None v = ok _
  below_agrees (Some l) v = also _ _ _ _ (agrees_order limit v l) (λ o. ok _)

  -- without a limit the test of a value against an upper bound is never refused; at a limit it is the same, or it is
  -- refused
  above_agrees : (u : Option ℚ) (v : ℚ) → Agrees as_it_is (above_upper limit u v) (above_upper None u v)
  above_agrees None v = ok _
  above_agrees (Some u) v = also _ _ _ _ (agrees_order limit v u) (λ o. ok _)

  outside_by_agrees : (u : Option ℚ) (v : ℚ) (c : Bool) →
      Agrees as_it_is (outside_by limit u v c) (outside_by None u v c)
  outside_by_agrees u v true = ok _
  outside_by_agrees u v false = also _ _ _ _ (above_agrees u v) (λ above. ok _)

  -- without a limit the test of a value against both bounds is never refused; at a limit it is the same, or it is
  -- refused
  outside_agrees : (l u : Option ℚ) (v : ℚ) → Agrees as_it_is (outside_run limit l u v) (outside_run None l u v)
  outside_agrees l u v = also _ _ _ _ (below_agrees l v) (outside_by_agrees u v)

  leaving_at_agrees : (t : Tableau) (k : ℕ) → Agrees as_it_is (leaving_at limit t k) (leaving_at None t k)
  leaving_at_agrees t k = also _ _ _ _ (outside_agrees (lower_at t k) (upper_at t k) (value_at t k)) (λ side. ok _)

  leaving_with_agrees : (t : Tableau) (k : ℕ) (x : Option Leaving) →
      Agrees as_it_is (leaving_with limit t k x) (leaving_with None t k x)
  leaving_with_agrees t k (Some x) = ok _
  leaving_with_agrees t k None = agrees_if as_it_is (is_basic (status_at t k)) _ _ _ _ (leaving_at_agrees t k) (ok None)

  -- without a limit the search for a leaving column is never refused; at a limit it is the same, or it is refused
  leaving_agrees : (t : Tableau) → Agrees as_it_is (leaving_run limit t) (leaving_run None t)
  leaving_agrees t =
      agrees_steps as_it_is (all_columns t) (leaving_with limit t) (leaving_with None t) None (leaving_with_agrees t)

  -- without a limit the fit of a tableau is never refused; at a limit it is the same, or it is refused
  pub fit_agrees : (t : Tableau) → Agrees as_it_is (fit_run limit t) (fit_run None t)
  unfolding fit_run
  fit_agrees t = also _ _ _ _ (leaving_agrees t) (λ x. ok _)

  -- ---- flips
  flip_by_agrees : (k : ℕ) (r : Reached) (c : Bool) → Agrees stop.Past (flip_by limit k r c) (flip_by None k r c)
  flip_by_agrees k r true = spent_agrees
  flip_by_agrees k r false =
      agrees_then stop.Past _ _ _ _
      (agrees_as stop.Past _ _ (flip_agrees limit r.tableau k)) (λ u. agrees_ok stop.Past _)

  -- without a limit the flips of a tableau are never refused; at a limit they are the same, or they are refused
  flips_agree : (budget : ℕ) (t : Tableau) → Agrees stop.Past (flips_run limit budget t) (flips_run None budget t)
  unfolding flips_run
  flips_agree budget t =
      agrees_steps stop.Past (all_columns t) _ _ (record { tableau = t; used = 0 })
      (λ k r. agrees_if stop.Past (needs_flip_at r.tableau k) (flip_next limit budget k r) (Ok r)
      (flip_next None budget k r) (Ok r) (flip_by_agrees k r (nat_le budget r.used)) (agrees_ok stop.Past r))

  -- ---- one step
  cheaper_agrees : (new : Cheapest ℚ) (best : Option (Cheapest ℚ)) →
      Agrees as_it_is (cheaper_run limit new best) (cheaper_run None new best)
  cheaper_agrees new None = ok _
  cheaper_agrees new (Some best) = also _ _ _ _ (agrees_order limit new.ratio best.ratio) (λ o. ok _)

  cheapest_by_agrees : (t : Tableau) (p k : ℕ) (best : Option (Cheapest ℚ)) (w : Option Way) →
      Agrees as_it_is (cheapest_by limit t p k best w) (cheapest_by None t p k best w)
  cheapest_by_agrees t p k best None = ok _
  cheapest_by_agrees t p k best (Some w) =
      also _ _ _ _ (agrees_quotient limit (abs_ℚ (reduced_at t k)) (abs_ℚ (entry_at t p k)))
      (λ ratio. cheaper_agrees _ best)

  -- without a limit the cheapest column is never refused; at a limit it is the same, or it is refused
  cheapest_agrees : (t : Tableau) (p : ℕ) (way : Way) →
      Agrees as_it_is (cheapest_run limit t p way) (cheapest_run None t p way)
  cheapest_agrees t p way =
      agrees_steps as_it_is (all_columns t) (cheapest_with limit t p way)
      (cheapest_with None t p way) None (λ k best. cheapest_by_agrees t p k best (dual_way_at t p way k))

  choice_of_agrees : (t : Tableau) (x : Option Leaving) →
      Agrees as_it_is (dual_choice_of limit t x) (dual_choice_of None t x)
  choice_of_agrees t None = ok _
  choice_of_agrees t (Some x) = also _ _ _ _ (cheapest_agrees t (place_of t x.col) x.direction) (λ best. ok _)

  -- without a limit the choice of a dual step is never refused; at a limit it is the same, or it is refused
  choice_agrees : (t : Tableau) → Agrees as_it_is (dual_choice_run limit t) (dual_choice_run None t)
  unfolding dual_choice_run
  choice_agrees t = also _ _ _ _ (leaving_agrees t) (choice_of_agrees t)

  -- without a limit a dual pivot is never refused; at a limit it is the same, or it is refused
  step_agrees : (t : Tableau) (p j : ℕ) (to : Status) →
      Agrees as_it_is (dual_pivot_run limit t p j to) (dual_pivot_run None t p j to)
  unfolding dual_pivot_run
  step_agrees t p j to =
      also _ _ _ _ (agrees_difference limit (value_at t (basic_at t p))
      (stand to (lower_at t (basic_at t p)) (upper_at t (basic_at t p)))) (λ gap.
      also _ _ _ _ (agrees_quotient limit gap (entry_at t p j)) (λ theta. pivot_agrees limit t p j theta to))

  -- ---- steps up to an end
  end_agrees : (t : Tableau) (used : ℕ) (c : DualChoice) →
      Agrees stop.Past (dual_end_or_spent t used c) (dual_end_or_spent t used c)
  end_agrees t used (End end) = agrees_ok stop.Past (record { end = end; tableau = t; used = used })
  end_agrees t used (Pivot p j to) = spent_agrees

  next_agrees : (t : Tableau) (used : ℕ) (f g : Tableau → Result DualEnded (RunStop ℚ)) →
      ((u : Tableau) → Agrees stop.Past (f u) (g u)) → (c : DualChoice) →
      Agrees stop.Past (dual_end_or_next limit t used f c) (dual_end_or_next None t used g c)
  next_agrees t used f g h (End end) = agrees_ok stop.Past (record { end = end; tableau = t; used = used })
  next_agrees t used f g h (Pivot p j to) =
      agrees_then stop.Past _ _ f g (agrees_as stop.Past _ _ (step_agrees t p j to)) h

  dual_from_agrees : (left used : ℕ) (t : Tableau) →
      Agrees stop.Past (dual_from limit left used t) (dual_from None left used t)
  unfolding dual_from
  dual_from_agrees zero used t =
      agrees_then stop.Past _ _ (dual_end_or_spent t used) (dual_end_or_spent t used)
      (agrees_as stop.Past _ _ (choice_agrees t)) (end_agrees t used)
  dual_from_agrees (suc left) used t =
      agrees_then stop.Past _ _ (dual_end_or_next limit t used (λ u. dual_from limit left (used + 1) u))
      (dual_end_or_next None t used (λ u. dual_from None left (used + 1) u)) (agrees_as stop.Past _ _ (choice_agrees t))
      (next_agrees t used (λ u. dual_from limit left (used + 1) u)
      (λ u. dual_from None left (used + 1) u) (λ u. dual_from_agrees left (used + 1) u))

  -- without a limit the dual steps are never refused; at a limit they are the same, or they are refused
  pub dual_agrees : (budget : ℕ) (t : Tableau) → Agrees stop.Past (dual_run limit budget t) (dual_run None budget t)
  unfolding dual_run
  dual_agrees budget t =
      agrees_then stop.Past (flips_run limit budget t) (flips_run None budget t) _ _
      (flips_agree budget t) (λ r. dual_from_agrees (budget - r.used) r.used r.tableau)
