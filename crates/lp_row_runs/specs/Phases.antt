-- What both phases over rows come to, by the tableaus of exact fractions that the rows are.
use Rattle.std.specs.Prelude.{◌≡◌, ℕ, ◌+◌, List, length, Option, Some, None, Result, Ok, Err, if◌then◌else◌}
use Rattle.spec_exact.specs.Fraction.{ℚ}
use Rattle.spec_check.specs.declared.certificate.Certificate.{Certificate}
use Rattle.spec_simplex.specs.declared.ends.PrimalEnd.{PrimalEnd}
use Rattle.spec_simplex.specs.declared.ends.PrimalEnd.TheVariants.{Optimal}
use Rattle.spec_simplex.specs.declared.ends.RunStop.{RunStop}
use Rattle.spec_exact.specs.Run.{◌>>=◌}
use Rattle.spec_simplex.specs.Form.{Form}
use Rattle.spec_simplex.specs.Tableau.{Tableau}
use Rattle.spec_simplex.specs.Phases.{PrimalEnded, PhasesEnd, Infeasible, Finished, is_stuck, phase_two}
use Rattle.spec_runs.specs.Cold.{basis_of, pivots_of}
use Rattle.lp_rows.specs.Shows.{height, IsWhole, IsReached, Shows}
use Rattle.lp_rows.specs.Ends.{certificate_as, AllFit}
use Rattle.lp_row_runs.specs.Steps.{steps_from}
use Rattle.lp_row_runs.specs.declared.phases.Phase.{Phase}
use Rattle.lp_row_runs.specs.declared.phases.Phase.TheVariants.{One, Between, Two}
use Rattle.lp_row_runs.specs.declared.phases.State.{State}
use Rattle.lp_row_runs.specs.declared.phases.RowEnd.{RowEnd}
use Rattle.lp_row_runs.specs.declared.phases.PhasesPause.{PhasesPause}
use Rattle.lp_row_runs.specs.declared.phases.PhasesPause.TheVariants.{Ended, Narrow, GaveUp}

-- what follows this end of phase one, with no limit on numbers: an infeasible end where a basic artificial is not 0,
-- else phase two
abbrev pub after_one : ℕ → Form → PrimalEnded → Result PhasesEnd (RunStop ℚ)
after_one budget f one =
    if is_stuck one.tableau then Ok (Infeasible one.tableau one.used) else phase_two None budget f one

-- what is left of phase one and phase two from a tableau in this phase, before which `used` pivots and flips were made,
-- with no limit on numbers
abbrev pub rest_run : ℕ → Form → Phase → ℕ → Tableau → Result PhasesEnd (RunStop ℚ)
rest_run budget f One used t = steps_from budget used t >>= after_one budget f
rest_run budget f Between used t = after_one budget f (record { end = Optimal; tableau = t; used = used })
rest_run budget f Two used t = steps_from budget used t >>= λ two. Ok (Finished two)

-- the end of both phases at this tableau and count; without an end of phase two it is infeasible
abbrev pub end_by : Tableau → ℕ → Option PrimalEnd → PhasesEnd
end_by t used None = Infeasible t used
end_by t used (Some end) = Finished (record { end = end; tableau = t; used = used })

-- the certificate of an end of both phases, in a kind of numbers
abbrev pub certificate_in : {N : Type 0} → (ℚ → N) → PhasesEnd → Certificate (List N)
certificate_in of (Infeasible t used) = certificate_as of t None
certificate_in of (Finished e) = certificate_as of e.tableau (Some e.end)

-- what the code keeps of an end of both phases: its certificate in a kind of numbers, its basis and its count
abbrev pub row_end : {N : Type 0} → (ℚ → N) → PhasesEnd → RowEnd N
row_end of end = record { certificate = certificate_in of end; basis = basis_of end; pivots = pivots_of end }

-- what the code keeps of what both phases give: an end, with its certificate in a kind of numbers, or why there is none
abbrev pub row_end_in : {N : Type 0} → (ℚ → N) → Result PhasesEnd (RunStop ℚ) → Result (RowEnd N) (RunStop ℚ)
row_end_in of (Ok end) = Ok (row_end of end)
row_end_in of (Err stop) = Err stop

-- the form has a cost for each structural and each logical column
abbrev pub HasCosts : Form → Type 0
HasCosts f = length f.cost ≡ f.cols + f.rows

-- the state's rows are whole, and it has as many rows and columns as the form
pub record IsReady {T : Type 0} (value : T → ℕ) (f : Form) (s : State T) : Type 0 where
  pub whole : IsWhole value s.tab
  pub rows : f.rows ≡ height s.tab
  pub cols : f.cols ≡ s.tab.cols

-- The whole run comes to the same as the rest of it from this state: from a reached tableau that the state's rows show,
-- in its phase and after its count of steps.
pub record IsLeft {T : Type 0} (value : T → ℕ) (budget : ℕ) (f : Form) (whole : Result PhasesEnd (RunStop ℚ))
    (s : State T) : Type 0 where
  pub tableau : Tableau
  pub reached : IsReached tableau
  pub shown : Shows value s.tab tableau
  pub same : whole ≡ rest_run budget f s.phase s.used tableau

-- a run over rows stops right: it ends as phase one and two do, or leaves a state from which wider words go on, or it
-- gave up (the budget or work is spent, or a number is past all words), and then nothing is asked
abbrev pub PausesWith : {N T : Type 0} → (ℚ → N) → (T → ℕ) → ℕ → Form → Result PhasesEnd (RunStop ℚ) → State T →
    PhasesPause N → Type 0
PausesWith of value budget f whole s (Ended e) = row_end_in of whole ≡ Ok e
PausesWith of value budget f whole s Narrow = IsLeft value budget f whole s
PausesWith of value budget f whole s GaveUp = Unit {0}

-- if a run over rows stops for wider words, a run may go on from its state; of other stops nothing is asked
abbrev pub StaysReady : {N T : Type 0} → (T → ℕ) → Form → State T → PhasesPause N → Type 0
StaysReady value f s (Ended e) = Unit {0}
StaysReady value f s Narrow = IsReady value f s
StaysReady value f s GaveUp = Unit {0}

-- if a run over rows stopped with an end, `fits` holds of all numbers of its certificate;
-- of other stops nothing is asked
abbrev pub HasFit : {N : Type 0} → (N → Type 0) → PhasesPause N → Type 0
HasFit fits (Ended e) = AllFit fits e.certificate
HasFit fits Narrow = Unit {0}
HasFit fits GaveUp = Unit {0}

-- a run over rows stopped with this end at this tableau, after this many pivots and flips, or it gave up
abbrev pub EndsWith : {N : Type 0} → (ℚ → N) → Tableau → ℕ → Option PrimalEnd → PhasesPause N → Type 0
EndsWith of t used end (Ended e) = e ≡ row_end of (end_by t used end)
EndsWith of t used end Narrow = ⊥
EndsWith of t used end GaveUp = Unit {0}

-- a run over rows stopped for good, with an end or because it gave up: it does not ask for wider words
abbrev pub IsOver : {N : Type 0} → PhasesPause N → Type 0
IsOver (Ended e) = Unit {0}
IsOver Narrow = ⊥
IsOver GaveUp = Unit {0}
