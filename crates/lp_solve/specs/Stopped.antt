-- How a solve ends where the warm start has stopped.
use Rattle.std.specs.Prelude.{◌≡◌, ℕ, List, Some, Ok}
use Rattle.spec_exact.specs.Fraction.{ℚ}
use Rattle.spec_exact.specs.Narrow.{number_limit}
use Rattle.spec_model.specs.Model.{Model}
use Rattle.spec_pivot.specs.declared.status.Status.{Status}
use Rattle.spec_simplex.specs.declared.ends.WarmStop.{WarmStop}
use Rattle.spec_simplex.specs.Form.{Form}
use Rattle.spec_simplex.specs.Eliminate.{IsBasisOf}
use Rattle.spec_runs.specs.declared.ends.Warm.TheVariants as warm
use Rattle.spec_runs.specs.Warm.{after_form}
use Rattle.spec_runs.specs.Solve.{SolveEnd}
use Rattle.spec_solve.specs.Answers.{IsSolved}

-- the warm start from a basis of the form stops for the reason `stop`
abbrev pub StopsFrom : ℕ → Model → Form → List Status → WarmStop ℚ → Type 0
StopsFrom budget m f basis stop = after_form (Some number_limit) budget m basis (Ok f) ≡ warm.Stopped stop

-- from each basis of the form from which the warm start stops for the reason `stop`, a solve may end with `s`
abbrev pub IsAfterStop : ℕ → Model → Form → WarmStop ℚ → SolveEnd → Type 0
IsAfterStop budget m f stop s = (basis : List Status) → IsBasisOf f basis → StopsFrom budget m f basis stop →
    IsSolved m budget (Some basis) s
