-- What the solve of a model with the objective 0 says.
use Rattle.std.specs.Prelude.{ℕ, List}
use Rattle.spec_exact.specs.Fraction.{ℚ}
use Rattle.spec_model.specs.Model.{Model}
use Rattle.spec_model.specs.Truth.{IsFeasible}
use Rattle.spec_check.specs.declared.certificate.Certificate.{Certificate}
use Rattle.spec_check.specs.declared.certificate.Certificate.TheVariants.{Optimal, Unbounded, Clash}
use Rattle.spec_check.specs.declared.certificate.Certificate.TheVariants as certificates
use Rattle.spec_check.specs.declared.solve_end.SolveEnd.TheVariants.{Ended, Past, Spent}
use Rattle.spec_runs.specs.Cold.{ExactSolveEnd}
use Rattle.spec_solve.specs.Order.{GivesUp}
use Rattle.spec_iis.specs.Found.{EndsCold, ShowsInfeasible}
use Rattle.lp_iis.specs.declared.trial.Trial.{Trial}
use Rattle.lp_iis.specs.declared.trial.Trial.TheVariants.{Infeasible, Point, Stopped}

-- what a certificate shows of its model: of an optimum or a ray its point, which is feasible; else that no point is
abbrev pub trial_by : Certificate (List ℚ) → Trial
trial_by (Optimal x y) = Point x
trial_by (Unbounded x r) = Point x
trial_by (certificates.Infeasible y) = Infeasible (certificates.Infeasible y)
trial_by (Clash j) = Infeasible (Clash j)

-- what the end of a solve shows of its model: a feasible point, that none is feasible, or nothing, as it gave up
abbrev pub trial_of : ExactSolveEnd → Trial
trial_of (Ended known certificate basis pivots) = trial_by certificate
trial_of (Past p) = Stopped (Past p)
trial_of Spent = Stopped Spent

-- what a cold solve shows is true of the model: a certificate of infeasibility, a feasible point, or an end that gives
-- up
abbrev pub IsTried : ℕ → Model → Trial → Type 0
IsTried budget m (Infeasible cert) = ShowsInfeasible m cert
IsTried budget m (Point z) = IsFeasible m z
IsTried budget m (Stopped end) = EndsCold m budget end × GivesUp end
