-- What an exact solve may end with, whose numbers may have any width.
use Rattle.std.specs.Prelude.{◌≡◌, ◌+◌, ◌^◌, ◌<◌, ◌≤◌, ℕ, unsigned_abs, List, Option, Some, None, IfSome, Ok, All}
use Rattle.spec_exact.specs.Fraction.{ℚ}
use Rattle.spec_exact.specs.Narrow.{number_limit}
use Rattle.spec_model.specs.Model.{Model}
use Rattle.spec_model.specs.Kept.{IsUsual}
use Rattle.spec_check.specs.declared.certificate.Certificate.{Certificate}
use Rattle.spec_check.specs.declared.certificate.Certificate.TheVariants.{Optimal, Infeasible, Clash, Unbounded}
use Rattle.spec_check.specs.declared.certificate.Known.{Known}
use Rattle.spec_check.specs.Certificate.{IsFor}
use Rattle.spec_check.specs.Run.{check_run}
use Rattle.spec_pivot.specs.declared.status.Status.{Status}
use Rattle.spec_simplex.specs.Form.{Form, form_of}
use Rattle.spec_simplex.specs.Eliminate.{IsBasisOf}
use Rattle.spec_runs.specs.Solve.{SolveEnd}
use Rattle.spec_solve.specs.declared.exact.ExactAnswer.{ExactAnswer}
use Rattle.spec_solve.specs.declared.exact.ExactEnd.{ExactEnd}
use Rattle.spec_solve.specs.declared.exact.ExactEnd.TheVariants.{Answered, Open}
use Rattle.spec_solve.specs.Order.{GivesUp}
use Rattle.spec_solve.specs.Answers.{IsSolved}
use Rattle.spec_solve.specs.OfBasis.{IsOfBasis}

-- an answer of an exact solve, in rational numbers
abbrev pub RationalAnswer : Type 0
RationalAnswer = ExactAnswer ℚ (List ℚ) (List Status)

-- how an exact solve ends, in rational numbers
abbrev pub RationalEnd : Type 0
RationalEnd = ExactEnd ℚ (List ℚ) (List Status)

-- The numerator and the denominator of a number have together at most 16,000 digits, so that its text fits a line of a
-- certificate. Such a line has at most 16,384 bytes, of which some hundred are for a letter, a name, a sign and a
-- slash.
abbrev pub FitsLine : ℚ → Type 0
FitsLine v = (above : ℕ) × (below : ℕ) × (unsigned_abs v.num < 10 ^ above) × (v.den < 10 ^ below) × (above + below ≤ 16000)

-- each number of the certificate has so few digits that its text fits a line of a certificate
abbrev pub FitsLines : Certificate (List ℚ) → Type 0
FitsLines (Optimal x y) = All FitsLine x × All FitsLine y
FitsLines (Infeasible y) = All FitsLine y
FitsLines (Clash j) = Unit {0}
FitsLines (Unbounded x r) = All FitsLine x × All FitsLine r

-- the certificate is one for the model, which the checker without a limit accepts for just this answer, and each of its
-- numbers fits a line
abbrev pub IsShown : Model → Known ℚ → Certificate (List ℚ) → Type 0
IsShown m known certificate = IsFor m certificate × (check_run None m certificate ≡ Ok known) × FitsLines certificate

-- The certificate is of an optimum, and its point and multipliers stand at the basis. If the model has a form at 127
-- bits, the basis is one of this form.
pub record IsBasisOfAnswer (m : Model) (certificate : Certificate (List ℚ)) (basis : List Status) : Type 0 where
  pub stands : IsOfBasis m basis certificate
  pub of_form : (f : Form) → form_of (Some number_limit) m ≡ Ok f → IsBasisOf f basis

-- the answer's certificate shows it of the model, and its basis, if there is one, is that at which the certificate
-- stands
abbrev pub IsExactAnswer : Model → RationalAnswer → Type 0
IsExactAnswer m a = IsShown m a.known a.certificate × IfSome a.basis (IsBasisOfAnswer m a.certificate)

-- a solve of the model at 127 bits, within this budget and from this basis, if there is one, may end without an answer:
-- an operation is refused, or the budget is spent
abbrev pub MayGiveUp : Model → ℕ → Option (List Status) → Type 0
MayGiveUp m budget starting = (solved : SolveEnd) × IsSolved m budget starting solved × GivesUp solved.end

-- What an exact solve of a model may end with, within a budget and with this basis to start from, if there is one: with an
-- answer of which nothing but its certificate is asked; or without one, within the usual limits only where a solve at 127
-- bits may end so too.
abbrev pub IsExactEnd : Model → ℕ → Option (List Status) → RationalEnd → Type 0
IsExactEnd m budget starting (Answered a) = IsExactAnswer m a
IsExactEnd m budget starting Open = IsUsual m → MayGiveUp m budget starting
