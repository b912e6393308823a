-- What a step sees, part by part, and that its choice may be made.
--
-- `gives`: a run that gives a value when its refusal is renamed gives that value.
-- `may_do`: the choice that follows the least ratio may be made of the entering column.
use Rattle.std.proofs.Common.{◌≡◌, ◌≢◌, ℕ, ◌<◌, List, get_or, Option, Some, None, Ok, Err, refl, sym, ap, ◌∙◌, subst}
use Rattle.spec_exact.specs.Fraction.{ℚ, 0ℚ, ◌*ℚ◌}
use Rattle.spec_exact.specs.declared.past.Past.{Past}
use Rattle.spec_exact.proofs.Field.{*ℚ_zero}
use Rattle.spec_simplex.specs.declared.ends.RowStart.{RowStart}
use Rattle.spec_simplex.specs.declared.ends.Entering.{Entering}
use Rattle.spec_simplex.specs.declared.ends.Best.{Best}
use Rattle.spec_simplex.specs.declared.ends.PrimalEnd.TheVariants.{Optimal}
use Rattle.spec_simplex.specs.declared.ends.Choice.{Choice}
use Rattle.spec_simplex.specs.declared.ends.Choice.TheVariants.{End}
use Rattle.spec_simplex.specs.declared.ends.RunStop.{RunStop}
use Rattle.spec_simplex.specs.declared.ends.RunStop.TheVariants as cause
use Rattle.spec_simplex.specs.Form.{Form}
use Rattle.spec_exact.specs.Run.{Run, ◌>>=◌, refused_as}
use Rattle.spec_exact.specs.Narrow.{number_limit}
use Rattle.spec_simplex.specs.Tableau.{Tableau, basic_at}
use Rattle.spec_simplex.specs.Step.{best_run, choice_at, choice_by}
use Rattle.spec_factor.specs.Factors.{column_of, ftran_run}
use Rattle.spec_factor.specs.Revised.{Revised, sign_of, seen, multipliers_run, entering_run, Selection, selection_with}
use Rattle.spec_factor.specs.Revised.{selection_run}
use Rattle.lp_simplex.proofs.Ratios.{StopsBy, best_is}
use Rattle.lp_frac.specs.declared.stop.Stop.{Stop}
use Rattle.lp_revised.specs.declared.stop.Spent.{Spent}
use Rattle.lp_frac.specs.declared.stop.Stop.TheVariants as stop
use Rattle.lp_revised.specs.Answer.{StopsRevised}
use Rattle.lp_revised.specs.Selecting.{choice_seen, MayDo}
use Rattle.lp_revised.proofs.Seen.{seen_at}

-- a run that stops stops what goes on from it
stops_on : {A B : Type 0} (run : Run A) (next : A → Run B) (e : Stop Spent) →
    StopsRevised (refused_as cause.Past run) e → StopsRevised (refused_as cause.Past (run >>= next)) e
stops_on (Ok a) next (stop.Past p) h = cc
stops_on (Ok a) next (stop.Cause why) h = cc
stops_on run next stop.NoMemory h = tt
stops_on (Err q) next (stop.Past p) h =
    let w : ◌≡◌ {A = RunStop ℚ} (cause.Past q) (cause.Past p) = cc in ap (λ e. Err e) w
stops_on (Err q) next (stop.Cause why) h = cc

pub gives : {A : Type 0} (run : Run A) (a : A) → refused_as {E = RunStop ℚ} cause.Past run ≡ Ok a → run ≡ Ok a
gives (Ok b) a h = cc
gives (Err q) a h = cc

-- the place p that the ratio test finds is a row of the tableau, and the solved column is not 0 there
entry_there : (starts : List (RowStart ℚ)) (t : Tableau) (z : List ℚ) (e : Entering) (best : Best ℚ) (p : ℕ) →
    best_run (Some number_limit) (seen starts t e.col z) e ≡ Ok (Some best) → best.place ≡ Some p
    → (p < t.rows) × (get_or z p 0ℚ ≢ 0ℚ)
entry_there starts t z e best p h is =
    let known : StopsBy (seen starts t e.col z) e best.ratio best.to (Some p) =
    subst (StopsBy (seen starts t e.col z) e best.ratio best.to) is (best_is (Some number_limit) (seen starts t e.col z)
    e
    (Some best) h) in (
      known.place,
      λ w. known.entry
          (seen_at starts t e.col z p known.place ∙ ap (λ x. sign_of starts t (basic_at t p) *ℚ x) w ∙ *ℚ_zero
          (sign_of starts t (basic_at t p))),
    )

-- what is chosen by the least ratio may be done
pub may_do : (starts : List (RowStart ℚ)) (t : Tableau) (z : List ℚ) (e : Entering) (best : Option (Best ℚ)) →
    best_run (Some number_limit) (seen starts t e.col z) e ≡ Ok best → MayDo t z e.col (choice_by e best)
may_do starts t z e None h = refl
may_do starts t z e (Some x) h = by x.place refl
  where
    by : (place : Option ℕ) → x.place ≡ place → MayDo t z e.col (choice_at e x place)
    by None is = refl
    by (Some p) is = let w = entry_there starts t z e x p h is in (refl, w.0, w.1)

module _ (f : Form) (starts : List (RowStart ℚ)) (costs : List ℚ) (s : Revised) where
  abbrev whole : Run Selection
  whole = selection_run (Some number_limit) f starts costs s

  abbrev on_from : List ℚ → Run Selection
  on_from y = entering_run (Some number_limit) f costs y s.bare >>= λ e. selection_with (Some number_limit) f starts s y
      e

  -- where the multipliers stop for a reason, what the step sees stops for it
  pub no_multipliers : (e : Stop Spent) →
      StopsRevised (refused_as cause.Past (multipliers_run (Some number_limit) starts costs s)) e →
      StopsRevised (refused_as cause.Past whole) e
  unfolding selection_run
  no_multipliers e h = stops_on (multipliers_run (Some number_limit) starts costs s) on_from e h

  module _ (y : List ℚ) (y_is : refused_as {E = RunStop ℚ} cause.Past (multipliers_run (Some number_limit) starts costs
      s) ≡
      Ok y) where
    from_y : whole ≡ on_from y
    unfolding selection_run
    from_y = ap (λ o. o >>= on_from) (gives (multipliers_run (Some number_limit) starts costs s) y y_is)

    -- where the search for an entering column is refused an operation, what the step sees is refused it
    pub no_entering : (p : Past ℚ) → entering_run (Some number_limit) f costs y s.bare ≡ Err p → whole ≡ Err p
    no_entering p h = from_y ∙ ap (λ o. o >>= λ e. selection_with (Some number_limit) f starts s y e) h

    -- where no column enters, the step sees the bare tableau, and chooses the end `Optimal`
    pub none_enters : entering_run (Some number_limit) f costs y s.bare ≡ Ok None →
        whole ≡ Ok (record { multipliers = y; tableau = s.bare; choice = End Optimal })
    none_enters h = from_y ∙ ap (λ o. o >>= λ e. selection_with (Some number_limit) f starts s y e) h

    module _ (e : Entering) (e_is : entering_run (Some number_limit) f costs y s.bare ≡ Ok (Some e)) where
      abbrev solve : Run (List ℚ)
      solve = ftran_run (Some number_limit) s.bare.rows s.pairs (column_of f e.col)

      abbrev sees_with : List ℚ → Option (Best ℚ) → Selection
      sees_with z best = record { multipliers = y; tableau = seen starts s.bare e.col z; choice = choice_by e best }

      abbrev after_solve : List ℚ → Run Selection
      after_solve z = best_run (Some number_limit) (seen starts s.bare e.col z) e >>= λ best. Ok (sees_with z best)

      from_e : whole ≡ (solve >>= after_solve)
      from_e = from_y ∙ ap (λ o. o >>= λ e. selection_with (Some number_limit) f starts s y e) e_is

      -- where solving for the entering column stops for a reason, what the step sees stops for it
      pub not_solved : (x : Stop Spent) → StopsRevised (refused_as cause.Past solve) x →
          StopsRevised (refused_as cause.Past whole) x
      not_solved x h =
          subst (λ r. StopsRevised (refused_as cause.Past r) x) (sym from_e) (stops_on solve after_solve x h)

      module _ (z : List ℚ) (z_is : refused_as {E = RunStop ℚ} cause.Past solve ≡ Ok z) where
        from_z : whole ≡ after_solve z
        from_z = from_e ∙ ap (λ o. o >>= after_solve) (gives solve z z_is)

        -- where the choice at what is seen is refused an operation, what the step sees is refused it
        pub not_chosen : (p : Past ℚ) → choice_seen starts s.bare z e ≡ Err p → whole ≡ Err p
        not_chosen p h = from_z ∙ by (best_run (Some number_limit) (seen starts s.bare e.col z) e) h
          where
            by : (o : Run (Option (Best ℚ))) → (o >>= λ best. Ok (choice_by e best)) ≡ Err p →
                (o >>= λ best. Ok (sees_with z best)) ≡ Err p
            by (Ok b) h = cc
            by (Err q) h = let w : q ≡ p = cc in ap (λ q. Err q) w

        -- where the entering column is solved as z, the step sees the tableau with z, and makes the choice that is due
        -- there
        pub selected : (choice : Choice ℚ) → choice_seen starts s.bare z e ≡ Ok choice →
            whole ≡ Ok (record { multipliers = y; tableau = seen starts s.bare e.col z; choice = choice })
        selected choice h = from_z ∙ by (best_run (Some number_limit) (seen starts s.bare e.col z) e) h
          where
            by : (o : Run (Option (Best ℚ))) → (o >>= λ best. Ok (choice_by e best)) ≡ Ok choice →
                (o >>= λ best. Ok (sees_with z best)) ≡ Ok
                (record { multipliers = y; tableau = seen starts s.bare e.col z; choice = choice })
            by (Ok b) h =
                let w : choice_by e b ≡ choice = cc in
                ap (λ c. Ok (record { multipliers = y; tableau = seen starts s.bare e.col z; choice = c })) w
            by (Err q) h = cc
