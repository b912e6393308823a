-- A run of steps over factors by its first step.
use Rattle.std.proofs.Common.{◌≡◌, ℕ, zero, suc, ◌+◌, ◌-◌, ◌<◌, List, Option, Some, None, Result, Ok, Err}
use Rattle.std.proofs.Common.{refl, sym, ap, ◌∙◌, subst, arith}
use Rattle.spec_exact.specs.Fraction.{ℚ}
use Rattle.spec_simplex.specs.declared.ends.RowStart.{RowStart}
use Rattle.spec_simplex.specs.declared.ends.PrimalEnd.{PrimalEnd}
use Rattle.spec_simplex.specs.declared.ends.PrimalEnd.TheVariants.{Optimal, Unbounded}
use Rattle.spec_simplex.specs.declared.ends.Choice.{Choice}
use Rattle.spec_simplex.specs.declared.ends.Choice.TheVariants.{End, Flip, Pivot}
use Rattle.spec_simplex.specs.declared.ends.RunStop.{RunStop}
use Rattle.spec_simplex.specs.declared.ends.RunStop.TheVariants as cause
use Rattle.spec_simplex.specs.Form.{Form}
use Rattle.spec_exact.specs.Run.{Run, ◌>>=◌, refused_as}
use Rattle.spec_exact.specs.Narrow.{number_limit}
use Rattle.spec_factor.specs.Revised.{Revised, Selection, selection_run}
use Rattle.spec_factor.specs.Over.{RevisedEnded, over_or_spent, over_or_next, over_from}
use Rattle.lp_revised.specs.declared.select.Column.{Column}
use Rattle.lp_revised.specs.declared.select.Selected.{Selected}
use Rattle.lp_frac.specs.declared.stop.Stop.{Stop}
use Rattle.lp_revised.specs.declared.stop.Spent.{Spent}
use Rattle.lp_revised.specs.Answer.{StopsRevised}
use Rattle.lp_revised.specs.Selecting.{CanDo, tableau_of, selection_of}
use Rattle.lp_revised.specs.Runs.{EndsWith, made_run}
use Rattle.lp_revised.proofs.Renewed.{stops_after}

-- the choice of a step is no end: a flip or a pivot
abbrev pub GoesOn : Choice ℚ → Type 0
GoesOn choice = (end : PrimalEnd) → choice ≡ End end → ⊥

-- where a step ends the run, it ends as `Optimal` without an entering column, else as `Unbounded` by that column
pub ends_with : (f : Form) (s : Revised) (column : Option Column) (choice : Choice ℚ) (end : PrimalEnd) →
    choice ≡ End end →
    CanDo f s column choice → EndsWith s.bare column end
ends_with f s column choice end e h = by column end (subst (CanDo f s column) e h)
  where
    by : (column : Option Column) (end : PrimalEnd) → CanDo f s column (End end) → EndsWith s.bare column end
    by None end z = let y : ◌≡◌ {A = Choice ℚ} (End end) (End Optimal) = z in cc
    by (Some c) Optimal z = z.1
    by (Some c) (Unbounded j way) z = (sym z.1, z.0.all)

module _ (f : Form) (starts : List (RowStart ℚ)) (costs : List ℚ) where
  abbrev seen_from : Revised → Run Selection
  seen_from s = selection_run (Some number_limit) f starts costs s

  abbrev from : ℕ → ℕ → Revised → Result RevisedEnded (RunStop ℚ)
  from left used s = over_from (Some number_limit) f starts costs left used s

  -- where what a step sees stops for a reason, the run from there stops for it
  pub run_refused : (left used : ℕ) (s : Revised) (e : Stop Spent) →
      StopsRevised (refused_as cause.Past (seen_from s)) e → StopsRevised (from left used s) e
  unfolding over_from
  run_refused zero used s e h =
      stops_after (refused_as cause.Past (seen_from s)) (λ x. over_or_spent s used x x.choice) e h
  run_refused (suc left) used s e h =
      stops_after (refused_as cause.Past (seen_from s))
      (λ x. over_or_next (Some number_limit) f s used (λ u. from left (used + 1) u) x x.choice) e h

  module _ (s : Revised) (selected : Selected) (h : seen_from s ≡ Ok (selection_of starts s.bare selected)) where
    abbrev shown_by : Choice ℚ → Selection
    shown_by choice =
        record {
          multipliers = selected.multipliers;
          tableau = tableau_of starts s.bare selected.column;
          choice =
              choice;
        }

    -- where the step that is seen chooses an end, the run ends at once in this state with that end
    pub run_ends : (left used : ℕ) (end : PrimalEnd) → selected.choice ≡ End end →
        from left used s ≡ Ok (record { end = end; state = s; selection = shown_by (End end); used = used })
    unfolding over_from
    run_ends zero used end c =
        ap (λ o. refused_as cause.Past o >>= λ x. over_or_spent s used x x.choice) (h ∙ ap (λ c. Ok (shown_by c)) c)
    run_ends (suc left) used end c =
        ap (λ o. refused_as cause.Past o >>= λ x. over_or_next (Some number_limit) f s used (λ u. from left (used + 1)
        u) x
        x.choice)
        (h ∙ ap (λ c. Ok (shown_by c)) c)

    spent_at : (used : ℕ) (x : Selection) (choice : Choice ℚ) → GoesOn choice →
        over_or_spent s used x choice ≡ Err cause.Spent
    spent_at used x (End end) n = absurd (n end refl)
    spent_at used x (Flip j) n = refl
    spent_at used x (Pivot p j theta to) n = refl

    -- where the step that is seen is no end, and no step is left of the budget, the run stops as spent
    pub run_spent : (left used : ℕ) → GoesOn selected.choice → left ≡ 0 → from left used s ≡ Err cause.Spent
    unfolding over_from
    run_spent zero used n e =
        ap (λ o. refused_as cause.Past o >>= λ x. over_or_spent s used x x.choice) h
        ∙ spent_at used (shown_by selected.choice) selected.choice n
    run_spent (suc left) used n e = absurd (let z : ⊥ = omega (arith, e) in z)

    next_at : (used : ℕ) (next : Revised → Result RevisedEnded (RunStop ℚ)) (c d : Choice ℚ) → GoesOn d →
        over_or_next (Some number_limit) f s used next (shown_by c) d ≡ (made_run f starts s selected.column d >>= next)
    next_at used next c (End end) n = absurd (n end refl)
    next_at used next c (Flip j) n = refl
    next_at used next c (Pivot p j theta to) n = refl

    goes_on : (left used : ℕ) → GoesOn selected.choice →
        from (suc left) used s ≡ (made_run f starts s selected.column selected.choice >>= λ u. from left (used + 1) u)
    unfolding over_from
    goes_on left used n =
        ap (λ o. refused_as cause.Past o >>= λ x. over_or_next (Some number_limit) f s used (λ u. from left (used + 1)
        u) x
        x.choice) h
        ∙ next_at used (λ u. from left (used + 1) u) selected.choice selected.choice n

    -- where fewer than the budget are used, what is left of it is one more than once one more is used
    one_left : (budget used : ℕ) → used < budget → budget - used ≡ suc (budget - (used + 1))
    one_left budget used l = omega (arith, l)

    one_step : (budget used : ℕ) → GoesOn selected.choice → used < budget →
        from (budget - used) used s
        ≡ (made_run f starts s selected.column selected.choice >>= λ u. from (budget - (used + 1)) (used + 1) u)
    one_step budget used n l =
        ap (λ left. from left used s) (one_left budget used l) ∙ goes_on (budget - (used + 1)) used n

    -- where the step that is seen is no end, steps are left, and making the step stops for a reason, the run stops for
    -- it
    pub step_stops : (budget used : ℕ) (e : Stop Spent) → GoesOn selected.choice → used < budget →
        StopsRevised (made_run f starts s selected.column selected.choice) e →
        StopsRevised (from (budget - used) used s) e
    step_stops budget used e n l g =
        subst (λ r. StopsRevised r e) (sym (one_step budget used n l))
        (stops_after (made_run f starts s selected.column selected.choice)
        (λ u. from (budget - (used + 1)) (used + 1) u) e g)

    -- where the step that is seen is no end, steps are left, and making it gives u, the run goes on from u with one
    -- step more used
    pub step_done : (budget used : ℕ) (u : Revised) → GoesOn selected.choice → used < budget →
        made_run f starts s selected.column selected.choice ≡ Ok u →
        from (budget - used) used s ≡ from (budget - (used + 1)) (used + 1) u
    step_done budget used u n l g =
        one_step budget used n l ∙ ap (λ o. o >>= λ u. from (budget - (used + 1)) (used + 1) u) g
