-- The checker never says no to a certificate that is accepted without a limit.
use Rattle.std.proofs.Common.{◌≡◌, ◌≢◌, ℕ, inl, inr, List, Option, Some, None, Result, Ok, Err, sym, ◌∙◌}
use Rattle.spec_exact.specs.Fraction.{ℚ}
use Rattle.spec_exact.specs.Narrow.{number_limit}
use Rattle.spec_model.specs.Model.{Model}
use Rattle.spec_check.specs.declared.certificate.Certificate.{Certificate}
use Rattle.spec_check.specs.declared.certificate.Known.{Known}
use Rattle.spec_check.specs.declared.certificate.CheckStop.{CheckStop}
use Rattle.spec_check.specs.declared.certificate.CheckStop.TheVariants.{No, Past}
use Rattle.spec_check.specs.Certificate.{shown}
use Rattle.spec_check.specs.Run.{Agrees, check_run}
use Rattle.spec_check.proofs.RunAgrees.{run_agrees}
use Rattle.spec_runs.specs.Accepted.{IsAccepted}

-- the checker at 127 bits never says no to a certificate that is accepted at any limit or without one
pub never_no : (limit : Option ℕ) (m : Model) (c : Certificate (List ℚ)) → IsAccepted limit m c → (n : ℕ) →
    check_run (Some number_limit) m c ≢ Err (No n)
unfolding Agrees
never_no limit m c a n e = by (run_agrees (Some number_limit) m c)
  where
    by : Agrees (check_run (Some number_limit) m c) (check_run None m c) → ⊥
    by (inl same) =
        let z : ◌≡◌ {A = Result (Known ℚ) (CheckStop ℚ)} (Err (No n)) (Ok (shown m c)) = sym e ∙ same ∙ a.accepted in cc
    by (inr (q, past)) =
        let z : ◌≡◌ {A = Result (Known ℚ) (CheckStop ℚ)} (Err (No n)) (Err (Past q)) = sym e ∙ past in cc
