-- What a run over rows ends with, as what one over factors does.
use Rattle.std.proofs.Common.{◌≡◌, ℕ, Some, None, Ok, refl}
use Rattle.spec_exact.specs.Fraction.{ℚ}
use Rattle.spec_exact.specs.Narrow.{number_limit}
use Rattle.spec_model.specs.Model.{Model}
use Rattle.spec_simplex.specs.Form.{Form, form_of}
use Rattle.spec_simplex.specs.Phases.{phases_run}
use Rattle.spec_check.specs.declared.solve_end.SolveEnd.TheVariants as outcome
use Rattle.spec_runs.specs.Cold.{ExactSolveEnd, answered}
use Rattle.spec_factor.specs.Over.{answer_in}
use Rattle.lp_revised.specs.declared.cold_run.RunEnd.{RunEnd}
use Rattle.lp_revised.specs.Runs.{over_end}
use Rattle.lp_row_runs.specs.declared.phases.RowEnd.{RowEnd}
use Rattle.lp_solve.specs.declared.strategy.Engine.TheVariants.{Rows}
use Rattle.lp_solve.specs.Strategy.{IsRunOf}
use Rattle.lp_solve.proofs.Factored.{other_may}

-- the end of a run over rows as one of a run over factors: the same certificate, basis and count of pivots
abbrev pub run_end : RowEnd ℚ → RunEnd
run_end e = record { certificate = e.certificate; basis = e.basis; pivots = e.pivots }

-- the engine over rows may end with what the checker answers to the certificate of a run that ended as both phases do
-- without a limit
pub rows_run : (budget : ℕ) (m : Model) (f : Form) → form_of (Some number_limit) m ≡ Ok f → (e : RunEnd) →
    answer_in (phases_run None budget f) ≡ Ok (over_end e) → (end : ExactSolveEnd) →
    end ≡ answered (Some number_limit) m e.certificate e.basis e.pivots → IsRunOf budget m f Rows end
rows_run budget m f formed e ends (outcome.Ended known c basis pivots) is =
    other_may budget m f formed (over_end e) _ known c basis pivots ends is refl
rows_run budget m f formed e ends (outcome.Past p) is = tt
rows_run budget m f formed e ends outcome.Spent is = tt
