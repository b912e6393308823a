-- Both phases part by part, from the tableau that the form begins with.
use Rattle.std.proofs.Common.{◌≡◌, ℕ, ◌-◌, Option, Result, Ok, Err, Bool, true, false, cond, refl, sym, subst, ap, ◌∙◌}
use Rattle.spec_exact.specs.Fraction.{ℚ}
use Rattle.spec_exact.specs.declared.past.Past.{Past}
use Rattle.spec_simplex.specs.declared.ends.PrimalEnd.{PrimalEnd}
use Rattle.spec_simplex.specs.declared.ends.PrimalEnd.TheVariants.{Optimal}
use Rattle.spec_simplex.specs.declared.ends.RunStop.{RunStop}
use Rattle.spec_simplex.specs.declared.ends.RunStop.TheVariants as stop
use Rattle.spec_simplex.specs.Form.{Form}
use Rattle.spec_exact.specs.Run.{◌>>=◌, refused_as, list_run}
use Rattle.spec_simplex.specs.Tableau.{Tableau}
use Rattle.spec_simplex.specs.Start.{row_start, begun, first_costs, priced_run, with_reduced, start_of}
use Rattle.spec_simplex.specs.Phases.{PrimalEnded, PhasesEnd, Infeasible, Finished, wants_phase_one, is_stuck}
use Rattle.spec_simplex.specs.Phases.{phase_one, phase_two, phase_two_run, run_from, phases_run}
use Rattle.spec_simplex.proofs.RunParts.{then_ok}
use Rattle.lp_solve.proofs.RunEnds.{IsAsLarge, IsEnd, run_ends}

module _ (limit : Option ℕ) (budget : ℕ) (f : Form) where
  -- where the start is refused an operation, so are both phases
  pub start_refused : (p : Past ℚ) → start_of limit f ≡ Err p → phases_run limit budget f ≡ Err (stop.Past p)
  unfolding phases_run
  start_refused p h =
      ap (λ o. refused_as stop.Past o >>= λ t. phase_one limit budget t >>= λ one. cond (is_stuck one.tableau)
      (Ok (Infeasible one.tableau one.used)) (phase_two limit budget f one)) h

  module _ (t : Tableau) (start : start_of limit f ≡ Ok t) where
    -- what both phases end with after phase one has ended so: infeasible, if it is stuck, or what phase two ends with
    abbrev after_one : PrimalEnded → Result PhasesEnd (RunStop ℚ)
    after_one one = cond (is_stuck one.tableau) (Ok (Infeasible one.tableau one.used)) (phase_two limit budget f one)

    -- both phases are phase one from the first tableau, and then what is after it
    from_start : phases_run limit budget f ≡ (phase_one limit budget t >>= after_one)
    unfolding phases_run
    from_start = ap (λ o. refused_as stop.Past o >>= λ t. phase_one limit budget t >>= after_one) start

    -- the start has the form's rows and columns
    start_rows : (t.rows ≡ f.rows) × (t.cols ≡ f.cols)
    unfolding start_of
    start_rows =
        let o = then_ok (list_run f.rows (row_start limit f)) _ t start in
        let p = then_ok (priced_run limit (begun f o.0) (first_costs f o.0)) _ t o.2 in
        let z : with_reduced (begun f o.0) p.0 ≡ t = cc in
        subst (λ t. (t.rows ≡ f.rows) × (t.cols ≡ f.cols)) z (refl, refl)

    -- phase one leaves a tableau with as many positions and columns
    first_keeps : (one : PrimalEnded) → phase_one limit budget t ≡ Ok one → IsAsLarge t one.tableau
    first_keeps one ok = by (wants_phase_one t) ok
      where
        by : (c : Bool) →
            cond c (run_from limit budget 0 t) (Ok (record { end = Optimal; tableau = t; used = 0 })) ≡ Ok one →
            IsAsLarge t one.tableau
        by true ok = let e : IsEnd limit t one = run_ends limit budget 0 t one ok in e.large
        by false ok =
            let z : ◌≡◌ {A = PrimalEnded} (record { end = Optimal; tableau = t; used = 0 }) one = cc in
            subst (λ (one : PrimalEnded). IsAsLarge t one.tableau) z (record { rows = refl; cols = refl })

    -- where phase one stops, both phases stop so
    pub first_stops : (s : RunStop ℚ) → phase_one limit budget t ≡ Err s → phases_run limit budget f ≡ Err s
    first_stops s h = from_start ∙ ap (λ o. o >>= after_one) h

    module _ (end : PrimalEnd) (u : Tableau) (used : ℕ)
        (first : phase_one limit budget t ≡ Ok (record { end = end; tableau = u; used = used })) where
      -- the end of phase one, with its tableau and its count
      abbrev one : PrimalEnded
      one = record { end = end; tableau = u; used = used }

      -- the form has as many rows as the tableau that phase one leaves
      pub same_rows : f.rows ≡ u.rows
      same_rows = let k : IsAsLarge t u = first_keeps one first in sym (k.rows ∙ start_rows.0)

      -- the form has as many columns as the tableau that phase one leaves
      pub same_cols : f.cols ≡ u.cols
      same_cols = let k : IsAsLarge t u = first_keeps one first in sym (k.cols ∙ start_rows.1)

      -- both phases are what is after this end of phase one
      from_first : phases_run limit budget f ≡ after_one one
      from_first = from_start ∙ ap (λ o. o >>= after_one) first

      -- where phase one leaves an artificial that is not 0, both phases end infeasible, at its tableau and count
      pub is_infeasible : is_stuck u ≡ true → phases_run limit budget f ≡ Ok (Infeasible u used)
      is_infeasible h = from_first ∙ ap (λ b. cond b (Ok (Infeasible u used)) (phase_two limit budget f one)) h

      module _ (free : is_stuck u ≡ false) where
        -- where no artificial is left that is not 0, both phases are phase two after phase one
        goes_on : phases_run limit budget f ≡ phase_two limit budget f one
        goes_on = from_first ∙ ap (λ b. cond b (Ok (Infeasible u used)) (phase_two limit budget f one)) free

        -- where the start of phase two is refused an operation, so are both phases
        pub second_refused : (p : Past ℚ) → phase_two_run limit f u ≡ Err p →
            phases_run limit budget f ≡ Err (stop.Past p)
        second_refused p h =
            goes_on ∙ ap (λ o. refused_as stop.Past o >>= λ t. run_from limit (budget - used) used t >>= λ two. Ok
            (Finished two)) h

        module _ (v : Tableau) (second : phase_two_run limit f u ≡ Ok v) where
          -- both phases are the run of phase two, with what phase one left of the budget
          from_second : phases_run limit budget f ≡ (run_from limit (budget - used) used v >>= λ two. Ok (Finished two))
          from_second =
              goes_on ∙ ap (λ o. refused_as stop.Past o >>= λ t. run_from limit (budget - used) used t >>= λ two. Ok
              (Finished two)) second

          -- where the run of phase two stops, both phases stop so
          pub second_stops : (s : RunStop ℚ) → run_from limit (budget - used) used v ≡ Err s →
              phases_run limit budget f ≡ Err s
          second_stops s h = from_second ∙ ap (λ o. o >>= λ two. Ok (Finished two)) h

          -- where the run of phase two ends, both phases end with that
          pub is_finished : (two : PrimalEnded) → run_from limit (budget - used) used v ≡ Ok two →
              phases_run limit budget f ≡ Ok (Finished two)
          is_finished two h = from_second ∙ ap (λ o. o >>= λ two. Ok (Finished two)) h
