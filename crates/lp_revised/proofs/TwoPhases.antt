-- Both phases over factors, part by part.
use Rattle.std.proofs.Common.{◌≡◌, ℕ, ◌-◌, List, Option, Some, None, Result, Ok, true, false, cond, sym, ap, ◌∙◌, subst}
use Rattle.std.proofs.Common.{Bool, ap₂}
use Rattle.spec_exact.specs.Fraction.{ℚ}
use Rattle.spec_check.specs.declared.certificate.Certificate.{Certificate}
use Rattle.spec_check.specs.declared.certificate.Certificate.TheVariants as certificate
use Rattle.spec_pivot.specs.declared.status.Status.{Status}
use Rattle.spec_simplex.specs.declared.ends.RowStart.{RowStart}
use Rattle.spec_simplex.specs.declared.ends.RunStop.{RunStop}
use Rattle.spec_simplex.specs.declared.ends.RunStop.TheVariants as cause
use Rattle.spec_simplex.specs.Form.{Form}
use Rattle.spec_simplex.specs.Tableau.{Tableau}
use Rattle.spec_exact.specs.Run.{◌>>=◌, refused_as, list_run}
use Rattle.spec_exact.specs.Narrow.{number_limit}
use Rattle.spec_simplex.specs.Start.{row_start, begun}
use Rattle.spec_simplex.specs.Phases.{is_stuck}
use Rattle.spec_runs.specs.Cold.{basis_at}
use Rattle.spec_factor.specs.Revised.{Revised, bare_of, refactor_run}
use Rattle.spec_factor.specs.Over.{RevisedEnded, OverEnd, over_from, over_one, over_two, over_phases, over_run}
use Rattle.spec_factor.specs.Over.{over_certificate, second_state, stuck_answer, end_answer, negatives}
use Rattle.lp_revised.specs.declared.cold_run.RunEnd.{RunEnd}
use Rattle.lp_revised.specs.declared.steps.StepsEnd.{StepsEnd}
use Rattle.lp_frac.specs.declared.stop.Stop.{Stop}
use Rattle.lp_revised.specs.declared.stop.Spent.{Spent}
use Rattle.lp_revised.specs.Answer.{StopsRevised}
use Rattle.lp_revised.specs.Runs.{EndsOver, ended_of, over_end, selection_at}
use Rattle.lp_revised.specs.Runs.{second_run, after_one_run, begun_run}
use Rattle.lp_revised.proofs.Renewed.{stops_after}

module _ (budget : ℕ) (f : Form) (starts : List (RowStart ℚ)) (s : Revised) where
  -- ---- both
  -- where phase one stops for a reason, both phases stop for it
  pub first_stops : (e : Stop Spent) → StopsRevised (over_one (Some number_limit) budget f starts s) e →
      StopsRevised (over_phases (Some number_limit) budget f starts s) e
  first_stops e h =
      stops_after (over_one (Some number_limit) budget f starts s) (after_one_run budget f starts) e h

  -- where phase one ends, a result that ends what comes after it ends both phases
  pub then_after : (one : RevisedEnded) (result : Result RunEnd (Stop Spent)) →
      over_one (Some number_limit) budget f starts s ≡ Ok one → EndsOver (after_one_run budget f starts one) result →
      EndsOver (over_phases (Some number_limit) budget f starts s) result
  then_after one result h g =
      subst (λ r. EndsOver r result) (sym (ap (λ o. o >>= after_one_run budget f starts) h)) g

-- ---- after phase one
module _ (budget : ℕ) (f : Form) (starts : List (RowStart ℚ)) (u : Revised) (used : ℕ) (one : StepsEnd) where
  abbrev by_test : Bool → Result OverEnd (RunStop ℚ)
  by_test b =
      cond b (Ok (stuck_answer (ended_of starts u used one)))
      (over_two (Some number_limit) budget f starts (ended_of starts u used one))

  -- where an artificial is not 0 at the end of phase one, the run ends as infeasible with the multipliers' negatives
  pub is_infeasible : (y : List ℚ) (rows : ℕ) → is_stuck u.bare ≡ true → rows ≡ u.bare.rows →
      y ≡ negatives rows one.multipliers →
      after_one_run budget f starts (ended_of starts u used one)
      ≡ Ok (record { certificate = certificate.Infeasible y; basis = None; pivots = used })
  is_infeasible y rows t r e =
      ap by_test t
      ∙ ap (λ (z : List ℚ). Ok (record { certificate = certificate.Infeasible z; basis = None; pivots = used }))
      (sym (e ∙ ap (λ m. negatives m one.multipliers) r))

  -- where no artificial is stuck at the end of phase one, a result that ends phase two ends what comes after phase one
  pub then_second : (result : Result RunEnd (Stop Spent)) → is_stuck u.bare ≡ false →
      EndsOver (second_run budget f starts used u) result →
      EndsOver (after_one_run budget f starts (ended_of starts u used one)) result
  then_second result t g = subst (λ r. EndsOver r result) (sym (ap by_test t)) g

-- ---- phase two
module _ (budget : ℕ) (f : Form) (starts : List (RowStart ℚ)) (used : ℕ) (s t : Revised) (costs : List ℚ)
    (b : t ≡ second_state s) (c : costs ≡ f.cost) where
  second_is : second_run budget f starts used s
      ≡ (over_from (Some number_limit) f starts costs (budget - used) used t >>= λ two. Ok (end_answer two))
  second_is =
      sym (ap (λ t. over_from (Some number_limit) f starts costs (budget - used) used t >>= λ two. Ok (end_answer two))
      b
      ∙ ap (λ costs. over_from (Some number_limit) f starts costs (budget - used) used (second_state s) >>= λ two. Ok
      (end_answer two)) c)

  -- where the steps of phase two stop for a reason, phase two stops for it
  pub second_stops : (e : Stop Spent) →
      StopsRevised (over_from (Some number_limit) f starts costs (budget - used) used t) e →
      StopsRevised (second_run budget f starts used s) e
  second_stops e h =
      subst (λ r. StopsRevised r e) (sym second_is)
      (stops_after (over_from (Some number_limit) f starts costs (budget - used) used t) (λ two. Ok (end_answer two)) e
      h)

  -- where the steps of phase two end, phase two ends with the answer that is read off their end
  pub is_finished : (u : Revised) (now : ℕ) (e : StepsEnd) (ended : RunEnd) →
      over_from (Some number_limit) f starts costs (budget - used) used t ≡ Ok (ended_of starts u now e) →
      over_end ended ≡ end_answer (ended_of starts u now e) →
      second_run budget f starts used s ≡ Ok (over_end ended)
  is_finished u now e ended h k = second_is ∙ ap (λ o. o >>= λ two. Ok (end_answer two)) h ∙ ap Ok (sym k)

-- the end of a run with this count, certificate and basis
abbrev answer_of : ℕ → Certificate (List ℚ) → Option (List Status) → OverEnd
answer_of pivots cert basis = record { certificate = cert; basis = basis; pivots = pivots }

-- a certificate and a basis that are read off the end of steps are those of the end's answer
pub is_ended : (starts : List (RowStart ℚ)) (u : Revised) (now : ℕ) (e : StepsEnd) (cert : Certificate (List ℚ))
    (basis : Option (List Status)) → cert ≡ over_certificate u.bare (selection_at starts u.bare e) e.end →
    basis ≡ basis_at u.bare e.end → answer_of now cert basis ≡ end_answer (ended_of starts u now e)
is_ended starts u now e cert basis k i = ap₂ (answer_of now) k i

-- ---- the whole
module _ (budget : ℕ) (f : Form) where
  abbrev after_rows : List (RowStart ℚ) → Result OverEnd (RunStop ℚ)
  after_rows starts = begun_run budget f starts (bare_of (begun f starts))

  -- where the start of some row stops for a reason, the run over factors stops for it
  pub rows_stop : (e : Stop Spent) →
      StopsRevised (refused_as cause.Past (list_run f.rows (row_start (Some number_limit) f))) e →
      StopsRevised (over_run (Some number_limit) budget f) e
  unfolding over_run
  rows_stop e h = stops_after (refused_as cause.Past (list_run f.rows (row_start (Some number_limit) f))) after_rows e h

  -- where all rows have their starts, a result that ends the run from the bare state ends the run over factors
  pub runs_whole : (starts : List (RowStart ℚ)) (t : Tableau) (result : Result RunEnd (Stop Spent)) →
      list_run f.rows (row_start (Some number_limit) f) ≡ Ok starts → t ≡ bare_of (begun f starts) →
      EndsOver (begun_run budget f starts t) result → EndsOver (over_run (Some number_limit) budget f) result
  unfolding over_run
  runs_whole starts t result h b g =
      subst (λ r. EndsOver r result)
      (sym (ap (λ o. refused_as cause.Past o >>= after_rows) h ∙ ap (begun_run budget f starts) (sym b))) g

-- the first factors, and what goes on from them
module _ (budget : ℕ) (f : Form) (starts : List (RowStart ℚ)) (t : Tableau) where
  -- where the first factors stop for a reason, the run from the bare state stops for it
  pub factors_stop : (e : Stop Spent) → StopsRevised (refactor_run (Some number_limit) f t) e →
      StopsRevised (begun_run budget f starts t) e
  factors_stop e h = stops_after (refactor_run (Some number_limit) f t) (over_phases (Some number_limit) budget f
      starts) e h

  module _ (s : Revised) (h : refactor_run (Some number_limit) f t ≡ Ok s) where
    from_factors : begun_run budget f starts t ≡ over_phases (Some number_limit) budget f starts s
    from_factors = ap (λ o. o >>= over_phases (Some number_limit) budget f starts) h

    -- where the first factors are there, and both phases stop for a reason, the run from the bare state stops for it
    pub phases_stop : (e : Stop Spent) → StopsRevised (over_phases (Some number_limit) budget f starts s) e →
        StopsRevised (begun_run budget f starts t) e
    phases_stop e g = subst (λ r. StopsRevised r e) (sym from_factors) g

    -- where the first factors are there, a result that ends both phases ends the run from the bare state
    pub phases_end : (result : Result RunEnd (Stop Spent)) →
        EndsOver (over_phases (Some number_limit) budget f starts s) result →
        EndsOver (begun_run budget f starts t) result
    phases_end result g = subst (λ r. EndsOver r result) (sym from_factors) g
