-- What the whole run ends with.
use Rattle.std.specs.Prelude.{◌≡◌, ℕ, Option, None, IfSome, Result, Ok}
use Rattle.spec_exact.specs.Fraction.{ℚ}
use Rattle.spec_simplex.specs.declared.ends.RunStop.{RunStop}
use Rattle.spec_exact.specs.Run.{◌>>=◌}
use Rattle.spec_simplex.specs.Form.{Form}
use Rattle.spec_simplex.specs.Tableau.{Tableau}
use Rattle.spec_simplex.specs.Phases.{PhasesEnd, phase_one}
use Rattle.spec_factor.specs.Over.{OverEnd}
use Rattle.lp_rows.specs.Ends.{AllFit}
use Rattle.lp_row_runs.specs.Phases.{after_one, row_end_in}
use Rattle.lp_row_runs.specs.declared.phases.RowEnd.{RowEnd}

-- phase one and phase two from the tableau that a form begins with
abbrev pub start_run : ℕ → Form → Tableau → Result PhasesEnd (RunStop ℚ)
start_run budget f t = phase_one None budget t >>= after_one budget f

-- if there is an end, it is that of the stated run without a limit on numbers, its certificate in a kind of numbers;
-- where there is none, nothing is asked
abbrev pub EndsAs : {N : Type 0} → (ℚ → N) → Result PhasesEnd (RunStop ℚ) → Option (RowEnd N) → Type 0
EndsAs of whole result = IfSome result (λ e. row_end_in of whole ≡ Ok e)

-- if there is an end, `fits` holds of all numbers of its certificate
abbrev pub IsFitEnd : {N : Type 0} → (N → Type 0) → Option (RowEnd N) → Type 0
IsFitEnd fits result = IfSome result (λ e. AllFit fits e.certificate)

-- an end over rows, as the code keeps it, as the definition's end of a run over factors
abbrev pub over_end : RowEnd ℚ → OverEnd
over_end e = record { certificate = e.certificate; basis = e.basis; pivots = e.pivots }
