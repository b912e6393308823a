-- What is promised of certificates and of answers.
use Rattle.std.specs.Prelude.{◌≡◌, ℕ, List, Option, None, Ok}
use Rattle.spec_exact.specs.Fraction.{ℚ}
use Rattle.spec_model.specs.Model.{Model}
use Rattle.spec_check.specs.declared.certificate.Certificate.{Certificate}
use Rattle.spec_check.specs.declared.certificate.Known.{Known}
use Rattle.spec_check.specs.Certificate.{IsFor, Holds, shown}
use Rattle.spec_check.specs.Checks.{Checks}
use Rattle.spec_check.specs.Run.{Agrees, check_run}
use Rattle.spec_pivot.specs.declared.status.Status.{Status}
use Rattle.spec_check.specs.declared.solve_end.SolveEnd.TheVariants.{Ended}
use Rattle.spec_runs.specs.Cold.{cold}

-- The certificate has the model's sizes, and its conditions hold for the model. Without a limit the checker says yes
-- with what the certificate shows; at this limit it says the same, or an operation is refused.
pub record IsAccepted (limit : Option ℕ) (m : Model) (c : Certificate (List ℚ)) : Type 0 where
  pub fits : IsFor m c
  pub holds : Checks m c
  pub accepted : check_run None m c ≡ Ok (shown m c)
  pub limited : Agrees (check_run limit m c) (Ok (shown m c))

-- the cold solve of m without a limit, within this budget, ends with an answer, and the answer is true of m
pub record IsAnswered (budget : ℕ) (m : Model) : Type 0 where
  pub answer : Known ℚ
  pub certificate : Certificate (List ℚ)
  pub basis : Option (List Status)
  pub pivots : ℕ
  pub ended : cold None budget m ≡ Ended answer certificate basis pivots
  pub holds : Holds m answer
