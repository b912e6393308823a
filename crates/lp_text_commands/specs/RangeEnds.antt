-- What a range needs of a model, and of what a solve of it ended with.
use Rattle.std.specs.Prelude.{ℕ, ◌≡◌, Option, Some, None, Result, Ok, Err, List}
use Rattle.spec_exact.specs.Fraction.{ℚ}
use Rattle.spec_exact.specs.Narrow.{number_limit}
use Rattle.spec_model.specs.Model.{Model, width, height}
use Rattle.spec_check.specs.declared.certificate.Known.TheVariants as known
use Rattle.spec_check.specs.declared.solve_end.SolveEnd.TheVariants.{Ended}
use Rattle.spec_pivot.specs.declared.status.Status.{Status}
use Rattle.spec_simplex.specs.declared.ends.FormFault.{FormFault}
use Rattle.spec_simplex.specs.Form.{Form, form_of}
use Rattle.spec_runs.specs.Cold.{ExactSolveEnd}
use Rattle.spec_runs.specs.declared.ends.Route.{Route}
use Rattle.spec_runs.specs.Solve.{solve_end}
use Rattle.spec_solve.specs.Answers.{IsSolved}
use Rattle.spec_range.specs.Span.{Keeps}
use Rattle.spec_program.specs.declared.command_line.Moved.{Moved}
use Rattle.spec_program.specs.declared.command_line.Moved.TheVariants.{Cost, RightSide}
use Rattle.spec_server.specs.Machine.{opening_budget}
use Rattle.lp_range.specs.Answer.{Start, IsFrom}
use Rattle.lp_text_commands.specs.declared.range.ranging.Ranged.{Ranged}

-- how many numbers of this kind a model has: one for each column, or for right sides one for each row
abbrev pub count_by : Moved → Model → ℕ
count_by Cost m = width m
count_by RightSide m = height m

-- if the solve ended with a basis, that keeps the model: its point and multipliers show that it is optimal
abbrev pub KeepsAtEnd : Model → ExactSolveEnd → Type 0
KeepsAtEnd m (Ended known certificate (Some basis) pivots) = Keeps m basis
KeepsAtEnd m end = Unit {0}

-- if the model has a form, ranges start from this basis; else there is no start for them
abbrev pub IsRangingFrom : Model → List Status → Result Form (FormFault ℚ) → Option Start → Type 0
IsRangingFrom m basis (Ok f) (Some start) = IsFrom m f basis start
IsRangingFrom m basis (Ok f) None = ⊥
IsRangingFrom m basis (Err why) ranging = ranging ≡ None

-- if the solve ended with an optimum and a basis, and the model has a form, ranges start from that basis; else there is
-- no start for them
abbrev pub IsRangingOf : Model → ExactSolveEnd → Option Start → Type 0
IsRangingOf m (Ended (known.Optimal v) certificate (Some basis) pivots) ranging =
    IsRangingFrom m basis (form_of (Some number_limit) m) ranging
IsRangingOf m end ranging = ranging ≡ None

-- a cold solve of the model, within the budget of a new session, may end so, and ranges start from its basis, if it
-- ends with an optimum and a basis, and the model has a form
pub record IsRanged (m : Model) (ranged : Ranged) : Type 0 where
  pub solved : (route : Route) × IsSolved m opening_budget None (solve_end (ranged.end, route))
  pub ranging : IsRangingOf m ranged.end ranged.ranging
