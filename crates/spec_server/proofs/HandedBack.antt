-- The certificate of an answer is accepted, if its lines are given back.
use Rattle.std.proofs.Common.{ℕ, List, Option, ap, ◌∙◌}
use Rattle.spec_exact.specs.Fraction.{ℚ}
use Rattle.spec_model.specs.Model.{Model}
use Rattle.spec_model.specs.Kept.{IsModel}
use Rattle.spec_check.specs.declared.certificate.Certificate.{Certificate}
use Rattle.spec_check.specs.declared.certificate.Known.{Known}
use Rattle.spec_check.specs.Run.{verdict_of}
use Rattle.spec_certificate.proofs.ReadBack.{read_back}
use Rattle.spec_pivot.specs.declared.status.Status.{Status}
use Rattle.spec_check.specs.declared.solve_end.SolveEnd.TheVariants.{Ended}
use Rattle.spec_solve.specs.Answers.{MayAnswer}
use Rattle.spec_server.specs.declared.asks.Reply.TheVariants as reply
use Rattle.spec_server.specs.Machine.{verdict_on}
use Rattle.spec_server.specs.HandedBack.{IsAcceptedBack}

-- The certificate of an answer that a model may have is accepted, where it is read from its own lines.
pub accepted_back : (m : Model) (budget : ℕ) (known : Known ℚ) (cert : Certificate (List ℚ))
    (basis : Option (List Status)) (pivots : ℕ) →
    IsModel m → MayAnswer m budget (Ended known cert basis pivots) → IsAcceptedBack m known cert
accepted_back m budget known cert basis pivots kept h =
    let r = read_back m cert kept h.0 h.1 in
    record {
      raw = r.raw;
      spelled = r.spelled;
      accepted = ap (verdict_on m) r.settled ∙ ap
          (λ run. reply.Checked (verdict_of run)) h.2;
    }
