-- A solve of a model, at a limit and within a budget: from the basis that is handed to it, if one is, and else cold.
-- Where the warm start stops, the solve is a cold one with the whole budget, so that a basis never costs an answer.
use Rattle.std.specs.Prelude.{◌≡◌, ℕ, List, Option, Some, None, Ok}
use Rattle.spec_exact.specs.Fraction.{ℚ}
use Rattle.spec_model.specs.Model.{Model}
use Rattle.spec_pivot.specs.declared.status.Status.{Status}
use Rattle.spec_simplex.specs.declared.ends.WarmStop.{WarmStop}
use Rattle.spec_simplex.specs.declared.ends.WarmStop.TheVariants as stop
use Rattle.spec_simplex.specs.Form.{Form, form_of}
use Rattle.spec_simplex.specs.Eliminate.{IsBasisOf}
use Rattle.spec_check.specs.declared.solve_end.SolveEnd.TheVariants as cold
use Rattle.spec_runs.specs.Cold.{ExactSolveEnd, cold as cold_solve}
use Rattle.spec_runs.specs.declared.ends.Fall.{Fall}
use Rattle.spec_runs.specs.declared.ends.Fall.TheVariants as fall
use Rattle.spec_runs.specs.declared.ends.Route.{Route}
use Rattle.spec_runs.specs.declared.ends.Route.TheVariants.{Cold, Warm, Fell}
use Rattle.spec_runs.specs.declared.ends.Warm.TheVariants as warm
use Rattle.spec_runs.specs.Warm.{WarmResult, warm as warm_start}

-- how a solve ends, in exact numbers, with the route by which it got there
pub record SolveEnd : Type 0 where
  pub end : ExactSolveEnd
  pub route : Route

-- an end and a route, as a solve ends
abbrev pub solve_end : ExactSolveEnd × Route → SolveEnd
solve_end s = record { end = s.0; route = s.1 }

-- the model has a form at this limit, and the basis is one of that form
abbrev pub HasBasis : Option ℕ → Model → List Status → Type 0
HasBasis limit m basis = (f : Form) × (form_of limit m ≡ Ok f) × IsBasisOf f basis

-- why a warm start stopped, without the operation that was refused
abbrev pub fall_of : WarmStop ℚ → Fall
fall_of stop.Singular = fall.Singular
fall_of stop.Unfit = fall.Unfit
fall_of (stop.Past p) = fall.Past
fall_of stop.Spent = fall.Spent

-- how a solve ends: as the warm start did, where that ended; else as the cold solve, with why the warm start stopped
abbrev pub solved_by : ExactSolveEnd → WarmResult → SolveEnd
solved_by other (warm.Ended answer certificate basis pivots) =
    record { end = cold.Ended answer certificate basis pivots; route = Warm }
solved_by other (warm.Stopped stop) = record { end = other; route = Fell (fall_of stop) }

-- the solve of a model: cold without a basis; with one the warm start from it, and where that stops the cold solve
unfoldable pub solve : Option ℕ → ℕ → Model → Option (List Status) → SolveEnd
solve limit budget m None = record { end = cold_solve limit budget m; route = Cold }
solve limit budget m (Some basis) = solved_by (cold_solve limit budget m) (warm_start limit budget m basis)
