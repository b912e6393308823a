-- A basis that a cold solve leaves keeps the model.
use Rattle.std.proofs.Common.{◌≡◌, ℕ, List, Some, None, subst}
use Rattle.spec_exact.specs.Fraction.{ℚ}
use Rattle.spec_model.specs.Model.{Model}
use Rattle.spec_check.specs.declared.certificate.Certificate.{Certificate}
use Rattle.spec_check.specs.declared.certificate.Known.{Known}
use Rattle.spec_check.specs.declared.solve_end.SolveEnd.TheVariants.{Ended}
use Rattle.spec_pivot.specs.declared.status.Status.{Status}
use Rattle.spec_runs.specs.Cold.{ExactSolveEnd}
use Rattle.spec_runs.specs.Solve.{SolveEnd}
use Rattle.spec_solve.specs.Answers.{IsSolved, ColdFits}
use Rattle.spec_range.specs.Span.{Keeps}
use Rattle.spec_range.proofs.ColdBases.{cold_keeps}

-- The basis with which a cold solve ends is optimal in the model, without a limit on the numbers.
pub solved_keeps : (m : Model) (budget : ℕ) (solved : SolveEnd) (known : Known ℚ) (cert : Certificate (List ℚ))
    (left : List Status) (pivots : ℕ) → IsSolved m budget None solved →
    solved.end ≡ Ended known cert (Some left) pivots → Keeps m left
solved_keeps m budget solved known cert left pivots is e =
    cold_keeps None budget m known cert left pivots
    (subst (λ (end : ExactSolveEnd). ColdFits m budget end) e is.how_fits.1)
