-- What a solve at the limit of the program may end with.
use Rattle.std.specs.Prelude.{◌≡◌, ◌*◌, ◌+◌, ◌^◌, ◌<◌, ℕ, Option, Some, None, Ok, Err, List}
use Rattle.spec_exact.specs.Fraction.{ℚ}
use Rattle.spec_exact.specs.Narrow.{number_limit}
use Rattle.spec_model.specs.Model.{Model, width, height}
use Rattle.spec_check.specs.Certificate.{IsFor, IsNarrowCertificate}
use Rattle.spec_check.specs.Run.{check_run}
use Rattle.spec_pivot.specs.declared.status.Status.{Status}
use Rattle.spec_simplex.specs.declared.ends.FormFault.{FormFault}
use Rattle.spec_simplex.specs.Form.{Form, form_of}
use Rattle.spec_check.specs.declared.solve_end.SolveEnd.TheVariants.{Ended, Past, Spent}
use Rattle.spec_runs.specs.Cold.{ExactSolveEnd, cold}
use Rattle.spec_runs.specs.declared.ends.Route.TheVariants as route
use Rattle.spec_runs.specs.declared.ends.Warm.TheVariants as warm
use Rattle.spec_runs.specs.Warm.{WarmResult, warm as warm_start}
use Rattle.spec_runs.specs.Solve.{SolveEnd, fall_of}
use Rattle.spec_factor.specs.Over.{over_factors}
use Rattle.spec_solve.specs.Order.{GivesUp}

-- how many pivots and flips suffice for any model of the size of m, 2 times 3 to the power of columns plus twice the
-- rows (`a_stated_budget_is_enough` of spec_runs)
abbrev pub enough_pivots : Model → ℕ
enough_pivots m = 2 * 3 ^ (width m + 2 * height m)

-- A solve of the model within this budget may end so. Something is known only by a certificate for the model, with
-- numbers of at most 127 bits, which the checker accepts at 127 bits for just this. An operation is past the limit, or
-- the budget is spent, only where the cold solve at 127 bits ends so; and a budget is spent only where it is below
-- `enough_pivots`.
abbrev pub MayAnswer : Model → ℕ → ExactSolveEnd → Type 0
MayAnswer m budget (Ended known certificate basis pivots) =
    IsFor m certificate × IsNarrowCertificate certificate × (check_run (Some number_limit) m certificate ≡ Ok known)
MayAnswer m budget (Past p) = cold (Some number_limit) budget m ≡ Past p
MayAnswer m budget Spent = (cold (Some number_limit) budget m ≡ Spent) × (budget < enough_pivots m)

-- a solve that starts cold and has an answer has the certificate, basis and pivots of the cold solve without a limit;
-- of a solve without an answer nothing is asked
abbrev pub ColdFits : Model → ℕ → ExactSolveEnd → Type 0
ColdFits m budget (Ended known certificate basis pivots) = cold None budget m ≡ Ended known certificate basis pivots
ColdFits m budget (Past p) = Unit {0}
ColdFits m budget Spent = Unit {0}

-- The solve's end fits this start from a basis. Where the start ended, its end is the solve's and the route is `Warm`.
-- Where it stopped, the route says why it stopped, and the end fits a cold solve.
abbrev pub WarmFits : Model → ℕ → WarmResult → SolveEnd → Type 0
WarmFits m budget (warm.Ended known certificate basis pivots) solved =
    solved ≡ record { end = Ended known certificate basis pivots; route = route.Warm }
WarmFits m budget (warm.Stopped stop) solved = (solved.route ≡ route.Fell (fall_of stop)) × ColdFits m budget solved.end

-- the solve's end and route fit the basis that was handed to it: without one it is cold; with one it fits the start
-- from this basis
abbrev pub HowFits : Model → ℕ → Option (List Status) → SolveEnd → Type 0
HowFits m budget None solved = (solved.route ≡ route.Cold) × ColdFits m budget solved.end
HowFits m budget (Some basis) solved = WarmFits m budget (warm_start (Some number_limit) budget m basis) solved

-- What a solve of a model may end with, within a budget and with this basis handed to it, if one is. Where the model
-- has no form at the limit, because bounds clash or an operation is refused, it is what the cold solve at the limit
-- ends with: nothing else is tried. Where the model has a form, the run over factors is always tried: nothing is known
-- only where that run gives up.
pub record IsSolved (m : Model) (budget : ℕ) (handed : Option (List Status)) (solved : SolveEnd) : Type 0 where
  pub may_answer : MayAnswer m budget solved.end
  pub how_fits : HowFits m budget handed solved
  pub without_form : (fault : FormFault ℚ) → form_of (Some number_limit) m ≡ Err fault →
      solved.end ≡ cold (Some number_limit) budget m
  pub by_factors : (f : Form) → form_of (Some number_limit) m ≡ Ok f → GivesUp solved.end →
      GivesUp (over_factors (Some number_limit) budget m f)
