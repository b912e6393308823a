-- How a solve may end, at a limit and within a budget: from the basis that is handed to it, if one is; and where
-- nothing is handed or this start stops, by a cold run with the whole budget. Any run that ends as the cold solve
-- without a limit may win the answer, if the checker says yes to its certificate at the limit. Without an answer a
-- solve ends as the cold solve over whole tableaus at the limit, and only where the run over factors gives up too.
use Rattle.std.specs.Prelude.{◌≡◌, ℕ, List, Option, Some, None, Result, Ok, Err}
use Rattle.spec_exact.specs.Fraction.{ℚ}
use Rattle.spec_model.specs.Model.{Model}
use Rattle.spec_pivot.specs.declared.status.Status.{Status}
use Rattle.spec_simplex.specs.declared.ends.FormFault.{FormFault}
use Rattle.spec_simplex.specs.Form.{Form, form_of}
use Rattle.spec_check.specs.Run.{check_run}
use Rattle.spec_check.specs.declared.solve_end.SolveEnd.TheVariants.{Ended, Past, Spent}
use Rattle.spec_runs.specs.Cold.{ExactSolveEnd, cold}
use Rattle.spec_runs.specs.declared.ends.Route.TheVariants as route
use Rattle.spec_runs.specs.declared.ends.Warm.TheVariants as warms
use Rattle.spec_runs.specs.Warm.{WarmResult, warm}
use Rattle.spec_runs.specs.Solve.{SolveEnd, fall_of}
use Rattle.spec_factor.specs.Over.{over_factors}

-- a solve ends without an answer: an operation is refused, or the budget is spent
abbrev pub GivesUp : ExactSolveEnd → Type 0
GivesUp (Ended known certificate basis pivots) = ⊥
GivesUp (Past p) = Unit {0}
GivesUp Spent = Unit {0}

-- a solve ends with an answer and a certificate that the checker at the limit accepts for just this answer
abbrev pub IsChecked : Option ℕ → Model → ExactSolveEnd → Type 0
IsChecked limit m (Ended known certificate basis pivots) = check_run limit m certificate ≡ Ok known
IsChecked limit m (Past p) = ⊥
IsChecked limit m Spent = ⊥

-- ---- the relation

-- How the cold part of a solve may end, at a limit and within a budget. With an answer it ends as the cold solve
-- without a limit, and the checker at the limit accepts the certificate. Without one it ends as the cold solve over
-- whole tableaus at the limit; for a model with a form the run over factors gives up too. Where the model has no form
-- at the limit, it ends as the cold solve at the limit.
pub data MayEndCold (limit : Option ℕ) (budget : ℕ) (m : Model) (end : ExactSolveEnd) : Type 0 where
  -- with an answer, as the cold solve without a limit; and for a model without a form at the limit nothing but the cold
  -- solve at the limit is tried
  Answered : end ≡ cold None budget m → IsChecked limit m end →
      ((fault : FormFault ℚ) → form_of limit m ≡ Err fault → end ≡ cold limit budget m) →
      MayEndCold limit budget m end
  -- without one, as the solve over whole tableaus at the limit; for a model with a form the run over factors gives up
  -- too
  GaveUp : GivesUp end → end ≡ cold limit budget m →
      ((f : Form) → form_of limit m ≡ Ok f → GivesUp (over_factors limit budget m f)) →
      MayEndCold limit budget m end

-- A solve may end so after this start from a basis. Where the start ended, its end is the solve's and the route is
-- `Warm`. Where it stopped, the end is one of a cold solve, and the route says why it stopped.
abbrev pub MayEndBy : Option ℕ → ℕ → Model → WarmResult → SolveEnd → Type 0
MayEndBy limit budget m (warms.Ended known certificate basis pivots) solved =
    solved ≡ record { end = Ended known certificate basis pivots; route = route.Warm }
MayEndBy limit budget m (warms.Stopped stop) solved =
    MayEndCold limit budget m solved.end × (solved.route ≡ route.Fell (fall_of stop))

-- how a solve may end, with this basis handed to it, if one is: without one cold, with the route `Cold`; with one as
-- after the warm start from it
unfoldable pub MayEnd : Option ℕ → ℕ → Model → Option (List Status) → SolveEnd → Type 0
MayEnd limit budget m None solved = MayEndCold limit budget m solved.end × (solved.route ≡ route.Cold)
MayEnd limit budget m (Some basis) solved = MayEndBy limit budget m (warm limit budget m basis) solved

-- ---- the two stated runs

-- the first end, that of the run over factors, where it has an answer; else the other end, that of the solve over whole
-- tableaus
abbrev pub or_tableaus : ExactSolveEnd → ExactSolveEnd → ExactSolveEnd
or_tableaus (Ended known certificate basis pivots) other = Ended known certificate basis pivots
or_tableaus (Past p) other = other
or_tableaus Spent other = other

-- the cold solve, by the model's form: the run over factors, and where it gives up, or where there is no form, the one
-- over whole tableaus
abbrev pub cold_by : Option ℕ → ℕ → Model → Result Form (FormFault ℚ) → ExactSolveEnd
cold_by limit budget m (Ok f) = or_tableaus (over_factors limit budget m f) (cold limit budget m)
cold_by limit budget m (Err fault) = cold limit budget m

-- the end of the run over factors, where it has an answer; where it gives up, or the model has no form at the limit,
-- the end of the cold solve over whole tableaus
unfoldable pub cold_over : Option ℕ → ℕ → Model → ExactSolveEnd
cold_over limit budget m = cold_by limit budget m (form_of limit m)
