-- Steps over factors up to an end, as the code has them.
use Rattle.std.specs.Prelude.{◌≡◌, ℕ, ◌-◌, List, length, Option, Some, None, Result, Ok, Err}
use Rattle.std.specs.Prelude.{if◌then◌else◌}
use Rattle.spec_exact.specs.Fraction.{ℚ}
use Rattle.spec_simplex.specs.declared.ends.RowStart.{RowStart}
use Rattle.spec_simplex.specs.declared.ends.Choice.{Choice}
use Rattle.spec_simplex.specs.declared.ends.Choice.TheVariants.{End, Flip, Pivot}
use Rattle.spec_simplex.specs.declared.ends.PrimalEnd.{PrimalEnd}
use Rattle.spec_simplex.specs.declared.ends.PrimalEnd.TheVariants.{Optimal, Unbounded}
use Rattle.spec_simplex.specs.declared.ends.RunStop.{RunStop}
use Rattle.spec_simplex.specs.declared.ends.RunStop.TheVariants as cause
use Rattle.spec_simplex.specs.Form.{Form}
use Rattle.spec_exact.specs.Run.{◌>>=◌, refused_as}
use Rattle.spec_exact.specs.Narrow.{number_limit}
use Rattle.spec_simplex.specs.Tableau.{Tableau}
use Rattle.spec_simplex.specs.Phases.{PhasesEnd, is_stuck}
use Rattle.spec_factor.specs.Revised.{Revised, Selection, flip_over_run, pivot_over_run, refactor_run}
use Rattle.spec_factor.specs.Over.{RevisedEnded, OverEnd, over_from, over_two, over_phases}
use Rattle.spec_factor.specs.Over.{second_state, stuck_answer, end_answer, answer_in}
use Rattle.lp_revised.specs.declared.cold_run.RunEnd.{RunEnd}
use Rattle.lp_revised.specs.declared.select.Column.{Column}
use Rattle.lp_revised.specs.declared.steps.StepsEnd.{StepsEnd}
use Rattle.lp_frac.specs.declared.stop.Stop.{Stop}
use Rattle.lp_revised.specs.declared.stop.Spent.{Spent}
use Rattle.lp_frac.specs.declared.stop.Stop.TheVariants as stop
use Rattle.lp_revised.specs.Answer.{StopsRevised}
use Rattle.lp_revised.specs.Selecting.{tableau_of}

-- the state after the flip or the pivot of a step, or why there is none; a choice that is an end leaves it as it is
abbrev pub made_run : Form → List (RowStart ℚ) → Revised → Option Column → Choice ℚ → Result Revised (RunStop ℚ)
made_run f starts s column (End end) = Ok s
made_run f starts s column (Flip j) =
    refused_as cause.Past (flip_over_run (Some number_limit) s (tableau_of starts s.bare column) j)
made_run f starts s column (Pivot p j theta to) =
    pivot_over_run (Some number_limit) f s (tableau_of starts s.bare column) p j theta to

-- what the last step saw and chose, by what the code keeps of it: its multipliers, its tableau and its end
abbrev pub selection_at : List (RowStart ℚ) → Tableau → StepsEnd → Selection
selection_at starts t e =
    record { multipliers = e.multipliers; tableau = tableau_of starts t e.column; choice = End e.end }

-- the end of steps that the code keeps, with this state and this count, as the definition has it
abbrev pub ended_of : List (RowStart ℚ) → Revised → ℕ → StepsEnd → RevisedEnded
ended_of starts s used e =
    record { end = e.end; state = s; selection = selection_at starts s.bare e; used = used }

-- How a run may end at the tableau t: as `Optimal` without an entering column; with one, as `Unbounded` by it, and its
-- solution by places has as many items as t has rows.
abbrev pub EndsWith : Tableau → Option Column → PrimalEnd → Type 0
EndsWith t None end = end ≡ Optimal
EndsWith t (Some c) Optimal = ⊥
EndsWith t (Some c) (Unbounded j way) = (c.number ≡ j) × (length c.solved ≡ t.rows)

-- the stated steps of a phase end as the code's do, with this state and this count, or stop as they do; of a stop for
-- lack of memory nothing is asked
abbrev pub RunsOver : Result RevisedEnded (RunStop ℚ) → List (RowStart ℚ) → Revised → ℕ → Result StepsEnd (Stop Spent) →
    Type 0
RunsOver answer starts s used (Ok e) = answer ≡ Ok (ended_of starts s used e)
RunsOver answer starts s used (Err e) = StopsRevised answer e

-- the stated phase one ends as the code's does, with this state and the count that it gives, or stops as it does; of a
-- stop for lack of memory nothing is asked
abbrev pub RunsFirst : Result RevisedEnded (RunStop ℚ) → List (RowStart ℚ) → Revised →
    Result (StepsEnd × ℕ) (Stop Spent) → Type 0
RunsFirst answer starts s (Ok (e, used)) = answer ≡ Ok (ended_of starts s used e)
RunsFirst answer starts s (Err e) = StopsRevised answer e

-- the end of a run over factors that the code keeps, as the definition has it
abbrev pub over_end : RunEnd → OverEnd
over_end e = record { certificate = e.certificate; basis = e.basis; pivots = e.pivots }

-- the stated phases over factors end as the code's do, or stop as they do;
-- of a stop for lack of memory nothing is asked
abbrev pub EndsOver : Result OverEnd (RunStop ℚ) → Result RunEnd (Stop Spent) → Type 0
EndsOver answer (Ok e) = answer ≡ Ok (over_end e)
EndsOver answer (Err e) = StopsRevised answer e

-- phase two from the state that phase one leaves, before which `used` steps were made
abbrev pub second_run : ℕ → Form → List (RowStart ℚ) → ℕ → Revised → Result OverEnd (RunStop ℚ)
second_run budget f starts used s =
    over_from (Some number_limit) f starts f.cost (budget - used) used (second_state s) >>= λ two. Ok (end_answer two)

-- what follows phase one: an infeasible end where an artificial is not 0, else phase two
abbrev pub after_one_run : ℕ → Form → List (RowStart ℚ) → RevisedEnded → Result OverEnd (RunStop ℚ)
after_one_run budget f starts one =
    if is_stuck one.state.bare then Ok (stuck_answer one) else over_two (Some number_limit) budget f starts one

-- phase one and two over factors from the tableau t, for whose basic columns the first factors are made
abbrev pub begun_run : ℕ → Form → List (RowStart ℚ) → Tableau → Result OverEnd (RunStop ℚ)
begun_run budget f starts t = refactor_run (Some number_limit) f t >>= λ s. over_phases (Some number_limit) budget f
    starts s

-- Without a limit, the run on whole tableaus ends as the code's run over factors does, and is spent where that is.
-- Where that is past the limit, or memory is wanting, nothing is asked.
abbrev pub EndsWhole : Result PhasesEnd (RunStop ℚ) → Result RunEnd (Stop Spent) → Type 0
EndsWhole whole (Ok e) = answer_in whole ≡ Ok (over_end e)
EndsWhole whole (Err (stop.Past p)) = Unit {0}
EndsWhole whole (Err (stop.Cause why)) = whole ≡ Err cause.Spent
EndsWhole whole (Err stop.NoMemory) = Unit {0}
