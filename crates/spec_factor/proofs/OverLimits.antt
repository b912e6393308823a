-- The run over factors at a limit beside the one without a limit.
use Rattle.std.proofs.Common.{◌≡◌, ◌≢◌, ◌⊎◌, inl, inr, ⊎_elim, ℕ, zero, suc, ◌+◌, ◌-◌, List}
use Rattle.std.proofs.Common.{Option, Some, None, Result, Ok, Err, ◌||◌, nat_eq, refl, ap}
use Rattle.spec_exact.specs.Fraction.{ℚ}
use Rattle.spec_exact.specs.declared.past.Past.{Past}
use Rattle.spec_pivot.specs.declared.status.Status.{Status}
use Rattle.spec_simplex.specs.declared.ends.RowStart.{RowStart}
use Rattle.spec_simplex.specs.declared.ends.Entering.{Entering}
use Rattle.spec_simplex.specs.declared.ends.Choice.{Choice}
use Rattle.spec_simplex.specs.declared.ends.Choice.TheVariants.{End, Flip, Pivot}
use Rattle.spec_simplex.specs.declared.ends.RunStop.{RunStop}
use Rattle.spec_simplex.specs.declared.ends.RunStop.TheVariants as stop
use Rattle.spec_simplex.specs.Form.{Form}
use Rattle.spec_exact.specs.Run.{Run, ◌>>=◌}
use Rattle.spec_simplex.specs.Start.{row_start, begun, first_costs, cost_at}
use Rattle.spec_simplex.specs.Tableau.{Tableau, all_columns, status_at, lower_at, upper_at, is_fixed}
use Rattle.spec_simplex.specs.Phases.{wants_phase_one, is_stuck}
use Rattle.spec_simplex.specs.Tableau.{is_basic}
use Rattle.spec_simplex.proofs.Refusals.{Agrees, as_it_is, agrees_ok, agrees_then, agrees_if}
use Rattle.spec_simplex.proofs.Refusals.{agrees_steps, agrees_as, agrees_list, agrees_less}
use Rattle.spec_simplex.proofs.LimitStart.{row_start_agrees, best_agrees, moved_agrees, shifted_agrees, flip_agrees}
use Rattle.spec_simplex.proofs.LimitPhases.{spent_agrees}
use Rattle.spec_factor.specs.declared.stop.NoFactors.{NoFactors}
use Rattle.spec_factor.specs.declared.stop.NoFactors.TheVariants as factor
use Rattle.spec_factor.specs.Factors.{Factors, column_entry, column_of}
use Rattle.spec_factor.specs.Revised.{Revised, bare_of, factor_basis, factor_stop, refactor_run}
use Rattle.spec_factor.specs.Revised.{replacements, basic_costs, multipliers_run, price_run, way_run}
use Rattle.spec_factor.specs.Revised.{or_priced, entering_run, seen, Selection, selection_with, selection_run}
use Rattle.spec_factor.specs.Revised.{flip_over_run, factors_at, exchange_run, pivot_over_run}
use Rattle.spec_factor.specs.Over.{RevisedEnded, over_or_spent, over_or_next, over_from}
use Rattle.spec_factor.specs.Over.{second_state, stuck_answer, end_answer, over_two, over_run}
use Rattle.spec_factor.proofs.FactorLimits.{ftran_agrees, btran_agrees, replace_agrees, factor_agrees}

abbrev also : {A B : Type 0} (o u : Run A) (f g : A → Run B) → Agrees as_it_is o u →
    ((a : A) → Agrees as_it_is (f a) (g a)) → Agrees as_it_is (o >>= f) (u >>= g)
also o u f g h k = agrees_then as_it_is o u f g h k

-- where factoring at a limit agrees with factoring without one, so does what a run makes of both
stop_agrees : (o u : Result Factors (NoFactors ℚ)) → Agrees factor.Past o u →
    Agrees stop.Past (factor_stop o) (factor_stop u)
stop_agrees o u h = by u h.exact h.same
  where
    by : (u : Result Factors (NoFactors ℚ)) → ((p : Past ℚ) → u ≢ Err (factor.Past p)) →
        (o ≡ u) ⊎ ((p : Past ℚ) × (o ≡ Err (factor.Past p))) → Agrees stop.Past (factor_stop o) (factor_stop u)
    by (Ok a) n s = record {
      exact = (agrees_ok stop.Past a).exact;
      same = ⊎_elim (λ e. inl (ap factor_stop e)) (λ p. inr (p.0, ap factor_stop p.1)) s;
    }
    by (Err (factor.Past p)) n s = absurd (n p refl)
    by (Err factor.Singular) n s = record {
      exact = (spent_agrees {A = Factors}).exact;
      same = ⊎_elim (λ e. inl (ap factor_stop e)) (λ p. inr (p.0, ap factor_stop p.1)) s;
    }

module _ (limit : Option ℕ) where
  -- ---- what a step sees
  price_agrees : (f : Form) (costs y : List ℚ) (k : ℕ) →
      Agrees as_it_is (price_run limit f costs y k) (price_run None f costs y k)
  price_agrees f costs y k =
      agrees_steps as_it_is f.rows _ _ (cost_at costs k) (λ i d. agrees_less limit _ (column_entry f i k) d)

  way_agrees : (f : Form) (costs y : List ℚ) (t : Tableau) (k : ℕ) →
      Agrees as_it_is (way_run limit f costs y t k) (way_run None f costs y t k)
  way_agrees f costs y t k =
      agrees_if as_it_is (is_fixed (lower_at t k) (upper_at t k) || is_basic (status_at t k)) _ _ _ _
      (agrees_ok as_it_is _) (also _ _ _ _ (price_agrees f costs y k) (λ d. agrees_ok as_it_is _))

  priced_agrees : (f : Form) (costs y : List ℚ) (t : Tableau) (k : ℕ) (e : Option Entering) →
      Agrees as_it_is (or_priced limit f costs y t k e) (or_priced None f costs y t k e)
  priced_agrees f costs y t k (Some e) = agrees_ok as_it_is _
  priced_agrees f costs y t k None = also _ _ _ _ (way_agrees f costs y t k) (λ w. agrees_ok as_it_is _)

  entering_agrees : (f : Form) (costs y : List ℚ) (t : Tableau) →
      Agrees as_it_is (entering_run limit f costs y t) (entering_run None f costs y t)
  unfolding entering_run
  entering_agrees f costs y t = agrees_steps as_it_is (all_columns t) _ _ None (λ k e. priced_agrees f costs y t k e)

  with_agrees : (f : Form) (starts : List (RowStart ℚ)) (s : Revised) (y : List ℚ) (e : Option Entering) →
      Agrees as_it_is (selection_with limit f starts s y e) (selection_with None f starts s y e)
  with_agrees f starts s y None = agrees_ok as_it_is _
  with_agrees f starts s y (Some e) =
      also _ _ _ _ (ftran_agrees limit s.bare.rows s.pairs (column_of f e.col))
      (λ z. also _ _ _ _ (best_agrees limit (seen starts s.bare e.col z) e) (λ best. agrees_ok as_it_is _))

  multipliers_agrees : (starts : List (RowStart ℚ)) (costs : List ℚ) (s : Revised) →
      Agrees as_it_is (multipliers_run limit starts costs s) (multipliers_run None starts costs s)
  unfolding multipliers_run
  multipliers_agrees starts costs s = btran_agrees limit s.bare.rows s.pairs (basic_costs starts costs s.bare)

  pub selection_agrees : (f : Form) (starts : List (RowStart ℚ)) (costs : List ℚ) (s : Revised) →
      Agrees as_it_is (selection_run limit f starts costs s) (selection_run None f starts costs s)
  unfolding selection_run
  selection_agrees f starts costs s =
      also _ _ _ _ (multipliers_agrees starts costs s)
      (λ y. also _ _ _ _ (entering_agrees f costs y s.bare) (λ e. with_agrees f starts s y e))

  -- ---- steps
  pub refactor_agrees : (f : Form) (t : Tableau) → Agrees stop.Past (refactor_run limit f t) (refactor_run None f t)
  unfolding refactor_run
  refactor_agrees f t =
      agrees_then stop.Past _ _ _ _
      (stop_agrees _ _ (factor_agrees limit f (factor_basis t))) (λ s. agrees_ok stop.Past _)

  flip_over_agrees : (s : Revised) (t : Tableau) (j : ℕ) →
      Agrees as_it_is (flip_over_run limit s t j) (flip_over_run None s t j)
  unfolding flip_over_run
  flip_over_agrees s t j = also _ _ _ _ (flip_agrees limit t j) (λ u. agrees_ok as_it_is _)

  exchange_agrees : (f : Form) (s : Revised) (t : Tableau) (p j : ℕ) (theta : ℚ) (to : Status) →
      Agrees as_it_is (exchange_run limit f s t p j theta to) (exchange_run None f s t p j theta to)
  unfolding exchange_run
  exchange_agrees f s t p j theta to =
      also _ _ _ _ (moved_agrees limit t j theta (Some p)) (λ values.
      also _ _ _ _ (shifted_agrees limit values j theta) (λ shifted.
      also _ _ _ _ (replace_agrees limit s.bare.rows (factors_at s) p j (column_of f j))
      (λ factors. agrees_ok as_it_is _)))

  pivot_over_agrees : (f : Form) (s : Revised) (t : Tableau) (p j : ℕ) (theta : ℚ) (to : Status) →
      Agrees stop.Past (pivot_over_run limit f s t p j theta to) (pivot_over_run None f s t p j theta to)
  pivot_over_agrees f s t p j theta to =
      agrees_then stop.Past _ _ _ _ (agrees_as stop.Past _ _ (exchange_agrees f s t p j theta to)) (λ u.
      agrees_if stop.Past (nat_eq u.replaced replacements) _ _ _ _ (refactor_agrees f u.bare) (agrees_ok stop.Past u))

  -- ---- runs
  spent_same : (s : Revised) (used : ℕ) (selection : Selection) (c : Choice ℚ) →
      Agrees stop.Past (over_or_spent s used selection c) (over_or_spent s used selection c)
  spent_same s used selection (End end) = agrees_ok stop.Past _
  spent_same s used selection (Flip j) = spent_agrees
  spent_same s used selection (Pivot p j theta to) = spent_agrees

  next_same : (f : Form) (s : Revised) (used : ℕ) (go on : Revised → Result RevisedEnded (RunStop ℚ)) →
      ((u : Revised) → Agrees stop.Past (go u) (on u)) → (selection : Selection) (c : Choice ℚ)
      → Agrees stop.Past (over_or_next limit f s used go selection c) (over_or_next None f s used on selection c)
  next_same f s used go on h selection (End end) = agrees_ok stop.Past _
  next_same f s used go on h selection (Flip j) =
      agrees_then stop.Past _ _ go on (agrees_as stop.Past _ _ (flip_over_agrees s selection.tableau j)) h
  next_same f s used go on h selection (Pivot p j theta to) =
      agrees_then stop.Past _ _ go on (pivot_over_agrees f s selection.tableau p j theta to) h

  from_agrees : (f : Form) (starts : List (RowStart ℚ)) (costs : List ℚ) (left used : ℕ) (s : Revised) →
      Agrees stop.Past (over_from limit f starts costs left used s) (over_from None f starts costs left used s)
  unfolding over_from
  from_agrees f starts costs zero used s =
      agrees_then stop.Past _ _ (λ selection. over_or_spent s used selection selection.choice)
      (λ selection. over_or_spent s used selection selection.choice)
      (agrees_as stop.Past _ _ (selection_agrees f starts costs s))
      (λ selection. spent_same s used selection selection.choice)
  from_agrees f starts costs (suc left) used s =
      agrees_then stop.Past _ _ (λ selection. over_or_next limit f s used
      (λ u. over_from limit f starts costs left (used + 1) u) selection selection.choice) (λ selection.
      over_or_next None f s used (λ u. over_from None f starts costs left (used + 1) u) selection selection.choice)
      (agrees_as stop.Past _ _ (selection_agrees f starts costs s))
      (λ selection. next_same f s used (λ u. over_from limit f starts costs left (used + 1) u)
      (λ u. over_from None f starts costs left (used + 1) u)
      (λ u. from_agrees f starts costs left (used + 1) u) selection selection.choice)

  two_agrees : (budget : ℕ) (f : Form) (starts : List (RowStart ℚ)) (one : RevisedEnded) →
      Agrees stop.Past (over_two limit budget f starts one) (over_two None budget f starts one)
  two_agrees budget f starts one =
      agrees_then stop.Past _ _ _ _ (from_agrees f starts f.cost (budget - one.used) one.used (second_state one.state))
      (λ two. agrees_ok stop.Past (end_answer two))

  pub over_agrees : (budget : ℕ) (f : Form) → Agrees stop.Past (over_run limit budget f) (over_run None budget f)
  unfolding over_run
  over_agrees budget f =
      agrees_then stop.Past _ _ _ _
      (agrees_as stop.Past _ _ (agrees_list f.rows (row_start limit f) (row_start None f) (row_start_agrees limit f)))
      (λ starts.
      agrees_then stop.Past _ _ _ _ (refactor_agrees f (bare_of (begun f starts))) (λ s.
      agrees_then stop.Past _ _ _ _
      (agrees_if stop.Past (wants_phase_one s.bare) _ _ _ _
      (from_agrees f starts (first_costs f starts) budget 0 s) (agrees_ok stop.Past _)) (λ one.
      agrees_if stop.Past (is_stuck one.state.bare) _ _ _ _
      (agrees_ok stop.Past (stuck_answer one)) (two_agrees budget f starts one))))
