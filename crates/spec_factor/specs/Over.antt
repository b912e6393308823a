-- The cold run over factors of a form, at a limit and within a budget: both phases, what they end with, and its check.
use Rattle.std.specs.Prelude.{ℕ, zero, suc, ◌+◌, ◌-◌, List, [], get_or, Option, None, Result, Ok, Err, if◌then◌else◌}
use Rattle.spec_exact.specs.Fraction.{ℚ, 0ℚ, neg_ℚ}
use Rattle.spec_model.specs.Model.{Model}
use Rattle.spec_check.specs.declared.certificate.Certificate.{Certificate}
use Rattle.spec_check.specs.declared.certificate.Certificate.TheVariants as certificate
use Rattle.spec_pivot.specs.declared.status.Status.{Status}
use Rattle.spec_simplex.specs.declared.ends.RowStart.{RowStart}
use Rattle.spec_simplex.specs.declared.ends.PrimalEnd.{PrimalEnd}
use Rattle.spec_simplex.specs.declared.ends.PrimalEnd.TheVariants.{Optimal, Unbounded}
use Rattle.spec_simplex.specs.declared.ends.Choice.{Choice}
use Rattle.spec_simplex.specs.declared.ends.Choice.TheVariants.{End, Flip, Pivot}
use Rattle.spec_simplex.specs.declared.ends.RunStop.{RunStop}
use Rattle.spec_simplex.specs.declared.ends.RunStop.TheVariants as stop
use Rattle.spec_simplex.specs.Form.{Form}
use Rattle.spec_exact.specs.Run.{◌>>=◌, refused_as, list_run, made}
use Rattle.spec_simplex.specs.Tableau.{Tableau}
use Rattle.spec_simplex.specs.Start.{row_start, begun, first_costs}
use Rattle.spec_simplex.specs.Phases.{PhasesEnd, without_artificials, wants_phase_one, is_stuck}
use Rattle.spec_check.specs.declared.solve_end.SolveEnd.TheVariants as outcome
use Rattle.spec_runs.specs.Cold.{ExactSolveEnd, point, direction, basis_at, certificate_of, basis_of, pivots_of}
use Rattle.spec_runs.specs.Cold.{answered}
use Rattle.spec_factor.specs.Revised.{Revised, bare_of, refactor_run, Selection}
use Rattle.spec_factor.specs.Revised.{selection_run, flip_over_run, pivot_over_run}

-- ---- steps up to an end

-- how steps ended, with what the last one saw and the count of pivots and flips
pub record RevisedEnded : Type 0 where
  pub end : PrimalEnd
  pub state : Revised
  pub selection : Selection
  pub used : ℕ

-- how the steps end where the budget is used up: with the end that the choice is; as `Spent` if it is a flip or a pivot
abbrev pub over_or_spent : Revised → ℕ → Selection → Choice ℚ → Result RevisedEnded (RunStop ℚ)
over_or_spent s used selection (End end) = Ok (record { end = end; state = s; selection = selection; used = used })
over_or_spent s used selection (Flip j) = Err stop.Spent
over_or_spent s used selection (Pivot p j theta to) = Err stop.Spent

-- a choice that is an end ends the steps; after a flip or a pivot, `next` goes on from the state that it leaves. One
-- that is refused ends them with its refusal.
abbrev pub over_or_next : Option ℕ → Form → Revised → ℕ → (Revised → Result RevisedEnded (RunStop ℚ)) → Selection →
    Choice ℚ → Result RevisedEnded (RunStop ℚ)
over_or_next limit f s used next selection (End end) =
    Ok (record { end = end; state = s; selection = selection; used = used })
over_or_next limit f s used next selection (Flip j) =
    refused_as stop.Past (flip_over_run limit s selection.tableau j) >>= next
over_or_next limit f s used next selection (Pivot p j theta to) =
    pivot_over_run limit f s selection.tableau p j theta to >>= next

-- steps over factors up to an end, or up to the first refusal: from a state before which `used` were made, and at most
-- `left` more; where more are needed, it is `Spent`
unfoldable pub over_from : Option ℕ → Form → List (RowStart ℚ) → List ℚ → ℕ → ℕ → Revised →
    Result RevisedEnded (RunStop ℚ)
over_from limit f starts costs zero used s =
    refused_as stop.Past (selection_run limit f starts costs s) >>= λ selection.
    over_or_spent s used selection selection.choice
over_from limit f starts costs (suc left) used s =
    refused_as stop.Past (selection_run limit f starts costs s) >>= λ selection.
    over_or_next limit f s used (λ u. over_from limit f starts costs left (used + 1) u) selection selection.choice

-- ---- the two phases

-- the selection where phase one is not wanted: no multipliers, the state's tableau, and an optimal end as the choice
abbrev pub nothing_seen : Revised → Selection
nothing_seen s = record { multipliers = []; tableau = s.bare; choice = End Optimal }

-- how phase one over factors ends where it is wanted, or why it stops without an end; where it is not wanted, an
-- optimal end at the same state, after no step
abbrev pub over_one : Option ℕ → ℕ → Form → List (RowStart ℚ) → Revised → Result RevisedEnded (RunStop ℚ)
over_one limit budget f starts s =
    if wants_phase_one s.bare
    then over_from limit f starts (first_costs f starts) budget 0 s
    else Ok (record { end = Optimal; state = s; selection = nothing_seen s; used = 0 })

-- the state with which phase two begins, where the artificial columns are fixed at 0
abbrev pub second_state : Revised → Revised
second_state s = record s { bare = without_artificials s.bare }

-- what a run over factors ends with: a certificate, the basis if the end is an optimum, and the count of pivots and
-- flips
pub record OverEnd : Type 0 where
  pub certificate : Certificate (List ℚ)
  pub basis : Option (List Status)
  pub pivots : ℕ

-- the negatives of m multipliers: a certificate's are the negatives of those that the last step of a run had
abbrev pub negatives : ℕ → List ℚ → List ℚ
negatives m y = made m (λ i. neg_ℚ (get_or y i 0ℚ))

-- the end where phase one leaves an artificial column that is not 0: the negatives of the last multipliers as Farkas
-- multipliers, no basis, and the count of steps
abbrev pub stuck_answer : RevisedEnded → OverEnd
stuck_answer e =
    record {
      certificate = certificate.Infeasible (negatives e.state.bare.rows e.selection.multipliers);
      basis = None;
      pivots = e.used;
    }

-- the certificate of an end of phase two: of an optimum the point and the negatives of the multipliers, of an unbounded
-- end the point and the ray of the entering column
abbrev pub over_certificate : Tableau → Selection → PrimalEnd → Certificate (List ℚ)
over_certificate t selection Optimal = certificate.Optimal (point t) (negatives t.rows selection.multipliers)
over_certificate t selection (Unbounded j way) = certificate.Unbounded (point t) (direction selection.tableau j way)

-- the end of the run where phase two ends: its certificate, its basis if it is an optimum, and the count of steps of
-- both phases
abbrev pub end_answer : RevisedEnded → OverEnd
end_answer e =
    record {
      certificate = over_certificate e.state.bare e.selection e.end;
      basis = basis_at e.state.bare e.end;
      pivots = e.used;
    }

-- phase two over factors, from the state that phase one ended with, its artificials fixed at 0, and with what phase one
-- left of the budget; or why it stops without an end
abbrev pub over_two : Option ℕ → ℕ → Form → List (RowStart ℚ) → RevisedEnded → Result OverEnd (RunStop ℚ)
over_two limit budget f starts one =
    over_from limit f starts f.cost (budget - one.used) one.used (second_state one.state) >>= λ two. Ok (end_answer two)

-- the run over factors from its first state: phase one, and then, unless it leaves an artificial column that is not 0
-- and so no feasible point, phase two. Both share the budget. It may stop without an end in either.
abbrev pub over_phases : Option ℕ → ℕ → Form → List (RowStart ℚ) → Revised → Result OverEnd (RunStop ℚ)
over_phases limit budget f starts s =
    over_one limit budget f starts s >>= λ one.
    if is_stuck one.state.bare then Ok (stuck_answer one) else over_two limit budget f starts one

-- the cold run over factors of a form, from the factors of all logical columns: what it ends with, or the refusal, or
-- `Spent`
unfoldable pub over_run : Option ℕ → ℕ → Form → Result OverEnd (RunStop ℚ)
over_run limit budget f =
    refused_as stop.Past (list_run f.rows (row_start limit f)) >>= λ starts.
    refactor_run limit f (bare_of (begun f starts)) >>= λ s.
    over_phases limit budget f starts s

-- ---- beside the run on whole tableaus

-- what both phases on whole tableaus end with, as an end of a run over factors: the certificate, the basis and the
-- count
abbrev pub answer_of : PhasesEnd → OverEnd
answer_of e = record { certificate = certificate_of e; basis = basis_of e; pivots = pivots_of e }

-- a result on whole tableaus as one of a run over factors: its end as certificate, basis and count; a stop as it is
abbrev pub answer_in : Result PhasesEnd (RunStop ℚ) → Result OverEnd (RunStop ℚ)
answer_in (Ok e) = Ok (answer_of e)
answer_in (Err s) = Err s

-- ---- the check, at the same limit, of a model that has this form

-- how a solve ends after the run over factors: by the check of its certificate; or past the limit,
-- or `Spent`, as it stopped
abbrev pub after_over : Option ℕ → Model → Result OverEnd (RunStop ℚ) → ExactSolveEnd
after_over limit m (Ok a) = answered limit m a.certificate a.basis a.pivots
after_over limit m (Err (stop.Past p)) = outcome.Past p
after_over limit m (Err stop.Spent) = outcome.Spent

-- how a solve ends by the cold run over factors of this form of the model, and by the check of its certificate at the
-- same limit
unfoldable pub over_factors : Option ℕ → ℕ → Model → Form → ExactSolveEnd
over_factors limit budget m f = after_over limit m (over_run limit budget f)
