-- What a check at 127 bits says is said with wide numbers too.
use Rattle.std.proofs.Common.{◌≡◌, ℕ, ◌+◌, Option, Some, None, Ok, Err, List, [], ◌∷◌, ◌⊎◌, inl, inr}
use Rattle.std.proofs.Common.{refl, sym, ap, ◌∙◌, subst}
use Rattle.spec_text.specs.declared.line.Line.{Line}
use Rattle.spec_exact.specs.Fraction.{ℚ}
use Rattle.spec_exact.specs.declared.past.Past.{Past}
use Rattle.spec_exact.specs.Narrow.{number_limit}
use Rattle.spec_model.specs.Model.{Model}
use Rattle.spec_model.specs.Kept.{usual_limits, large_limits}
use Rattle.spec_model.proofs.KeptModels.{usual_below_large}
use Rattle.spec_mps.specs.declared.style.Style.{Style}
use Rattle.spec_mps.specs.Reader.{State, start}
use Rattle.spec_mps.specs.Steps as text
use Rattle.spec_mps.proofs.GreaterLimits.{step_more}
use Rattle.spec_check.specs.declared.certificate.Certificate.{Certificate}
use Rattle.spec_check.specs.declared.certificate.SettleFault.TheVariants as settle
use Rattle.spec_check.specs.declared.certificate.Verdict.{Verdict}
use Rattle.spec_check.specs.declared.certificate.Verdict.TheVariants as verdict
use Rattle.spec_check.specs.Run.{Agrees, check_run, verdict_of}
use Rattle.spec_check.specs.Settle.{Settled, certificate_for}
use Rattle.spec_check.proofs.RunAgrees.{run_agrees}
use Rattle.spec_certificate.specs.declared.progress.Progress.TheVariants as progress
use Rattle.spec_certificate.specs.Text.{step_by}
use Rattle.spec_certificate.specs.NarrowText.{ExactRaw, Outcome, narrow}
use Rattle.spec_certificate.specs.WideText.{wide}
use Rattle.spec_certificate.proofs.Wider.{step_same, is_read}
use Rattle.spec_server.specs.declared.asks.Reply.TheVariants as reply
use Rattle.spec_server.specs.declared.asks.Refusal.TheVariants as refusal
use Rattle.spec_server.specs.Machine.{ExactReply, verdict_on}
use Rattle.spec_commands.specs.CheckOut.{Stage, InText, InCertificate, behind_text, behind_certificate, check_step, said}
use Rattle.spec_commands.specs.CheckWideOut.{behind_wide, wide_verdict_on, wide_step, wide_said}
use Rattle.spec_server.specs.Said.{follow, said_by}
use Rattle.spec_server.proofs.Truth.{checked}

-- the verdict is that an operation is past the limit
abbrev pub IsPast : Verdict ℚ → Type 0
IsPast v = (p : Past ℚ) × (v ≡ verdict.Past p)

-- two replies are equal where they are equal as results that are there
told : (a b : ExactReply) → Some a ≡ Some b → a ≡ b
told a b e = cc

-- where a certificate has a verdict at 127 bits, it has the same with wide numbers, or the verdict is PAST
same_run : (m : Model) (cert : Certificate (List ℚ)) (v : Verdict ℚ) →
    verdict_on m (Ok cert) ≡ reply.Checked v → (wide_verdict_on m (Ok cert) ≡ reply.Checked v) ⊎ IsPast v
unfolding Agrees
same_run m cert v e = by (run_agrees (Some number_limit) m cert)
  where
    by : Agrees (check_run (Some number_limit) m cert) (check_run None m cert) →
        (wide_verdict_on m (Ok cert) ≡ reply.Checked v) ⊎ IsPast v
    by (inl same) = inl (ap (λ run. reply.Checked (verdict_of run)) (sym same) ∙ e)
    by (inr (p, is)) = inr (p, sym (checked _ _ e) ∙ ap verdict_of is)

-- where a certificate or its fault has a verdict at 127 bits, it has the same with wide numbers, or it is PAST
same_verdict : (m : Model) (answer : Settled (Certificate (List ℚ))) (v : Verdict ℚ) →
    verdict_on m answer ≡ reply.Checked v → (wide_verdict_on m answer ≡ reply.Checked v) ⊎ IsPast v
same_verdict m (Ok cert) v e = same_run m cert v e
same_verdict m (Err (settle.UnknownName name)) v e = cc
same_verdict m (Err (settle.Repeated name)) v e = cc

-- what `check` says of lines from a stage on
abbrev says : List (Line (List ℕ)) → Stage → Option ExactReply
says lines stage = said_by check_step stage lines

-- what `check --wide` says of lines from a stage on
abbrev wide_says : List (Line (List ℕ)) → Stage → Option ExactReply
wide_says lines stage = said_by wide_step stage lines

-- where `check` says a verdict of lines from a stage on, `check --wide` says it too, or the verdict is that an
-- operation is past 127 bits
abbrev Keeps : List (Line (List ℕ)) → Stage → Verdict ℚ → Type 0
Keeps lines stage v =
    says lines stage ≡ Some (reply.Checked v) → (wide_says lines stage ≡ Some (reply.Checked v)) ⊎ IsPast v

-- where `check` says a verdict at a certificate's end, `check --wide` says the same one, or the verdict is PAST
ended : (m : Model) (answer : Settled (Certificate (List ℚ))) (v : Verdict ℚ) →
    Some (verdict_on m answer) ≡ Some (reply.Checked v) →
    (Some (wide_verdict_on m answer) ≡ Some (reply.Checked v)) ⊎ IsPast v
ended m answer v e = by (same_verdict m answer v (told _ _ e))
  where
    by : (wide_verdict_on m answer ≡ reply.Checked v) ⊎ IsPast v →
        (Some (wide_verdict_on m answer) ≡ Some (reply.Checked v)) ⊎ IsPast v
    by (inl same) = inl (ap Some same)
    by (inr past) = inr past

-- where `check` says a verdict from a line of a certificate on, `check --wide` does, or it is PAST, if so from the next
-- line on
behind : (m : Model) (n : ℕ) (lines : List (Line (List ℕ))) (v : Verdict ℚ) →
    ((raw : ExactRaw) → Keeps lines (InCertificate m (Some raw) n) v) → (o : Outcome) →
    follow (behind_certificate m n o) (says lines) ≡ Some (reply.Checked v) →
    (follow (behind_wide m n o) (wide_says lines) ≡ Some (reply.Checked v)) ⊎ IsPast v
behind m n lines v more (progress.More raw) e = more raw e
behind m n lines v more (progress.Done raw) e = ended m (certificate_for m raw) v e
behind m n lines v more progress.Unfit e = cc

-- a refusal of a line is no verdict
refused : (n : ℕ) (v : Verdict ℚ) →
    ◌≡◌ {A = Option ExactReply} (Some (reply.Refused (refusal.Unfit n))) (Some (reply.Checked v)) → ⊥
refused n v e = cc

-- where `check --wide` keeps a verdict of `check` from the next line of a certificate on, it keeps it from this line on
in_certificate : (m : Model) (s : Option ExactRaw) (n : ℕ) (line : Line (List ℕ)) (lines : List (Line (List ℕ)))
    (v : Verdict ℚ) → ((raw : ExactRaw) → Keeps lines (InCertificate m (Some raw) (n + 1)) v) →
    Keeps (line ∷ lines) (InCertificate m s n) v
unfolding check_step wide_step
in_certificate m s n line lines v more e = by (step_same narrow wide is_read s line)
  where
    by : (step_by wide s line ≡ step_by narrow s line) ⊎ (step_by narrow s line ≡ progress.Unfit) →
        (follow (behind_wide m (n + 1) (step_by wide s line)) (wide_says lines) ≡ Some (reply.Checked v)) ⊎ IsPast v
    by (inl same) =
        subst (λ o. (follow (behind_wide m (n + 1) o) (wide_says lines) ≡ Some (reply.Checked v)) ⊎ IsPast v) (sym same)
        (behind m (n + 1) lines v more (step_by narrow s line) e)
    by (inr unfit) =
        absurd (refused (n + 1) v (sym (ap (λ o. follow (behind_certificate m (n + 1) o) (says lines)) unfit) ∙ e))

-- where `check` says a verdict of the lines of a certificate, `check --wide` says the same one, or the verdict is PAST
from_certificate : (lines : List (Line (List ℕ))) (m : Model) (s : Option ExactRaw) (n : ℕ) (v : Verdict ℚ) →
    Keeps lines (InCertificate m s n) v
from_certificate [] m s n v e = cc
from_certificate (line ∷ lines) m s n v e =
    in_certificate m s n line lines v (λ raw. from_certificate lines m (Some raw) (n + 1) v) e

-- where `check --wide` keeps a verdict of `check` after each line of a model's text that goes on, or that ends the
-- text, it keeps it from that line on
in_text : (style : Style) (n : ℕ) (lines : List (Line (List ℕ))) (v : Verdict ℚ) →
    ((s : State) → Keeps lines (InText style s n) v) → ((m : Model) → Keeps lines (InCertificate m None 0) v) →
    (o : text.Outcome) → follow (behind_text style n o) (says lines) ≡ Some (reply.Checked v) →
    (follow (behind_text style n o) (wide_says lines) ≡ Some (reply.Checked v)) ⊎ IsPast v
in_text style n lines v more done (Ok (text.More s)) e = more s e
in_text style n lines v more done (Ok (text.Done m)) e = done m e
in_text style n lines v more done (Err code) e = cc

-- where `check` says a verdict of the lines of a text, `check --wide` says the same one, or the verdict is PAST
from_text : (lines : List (Line (List ℕ))) (style : Style) (s : State) (n : ℕ) (v : Verdict ℚ) →
    Keeps lines (InText style s n) v
unfolding check_step wide_step
from_text [] style s n v e = cc
from_text (line ∷ lines) style s n v e =
    by (text.step usual_limits style s line) refl e (λ s. from_text lines style s (n + 1) v)
    (λ m. from_certificate lines m None 0 v)
  where
    by : (o : text.Outcome) → text.step usual_limits style s line ≡ o →
        follow (behind_text style (n + 1) o) (says lines) ≡ Some (reply.Checked v) →
        ((s : State) → Keeps lines (InText style s (n + 1)) v) →
        ((m : Model) → Keeps lines (InCertificate m None 0) v) →
        (follow (behind_text style (n + 1) (text.step large_limits style s line)) (wide_says lines)
        ≡ Some (reply.Checked v)) ⊎ IsPast v
    by (Ok p) is e more done =
        let same = step_more usual_limits large_limits usual_below_large style s line p is in
        subst (λ (o : text.Outcome). (follow (behind_text style (n + 1) o) (wide_says lines) ≡ Some (reply.Checked v))
        ⊎ IsPast v) (sym same) (in_text style (n + 1) lines v more done (Ok p) e)
    by (Err code) is e more done = cc

-- a verdict that `check` says of lines is what `check --wide` says, or the verdict is PAST
pub same_check : (style : Style) (lines : List (Line (List ℕ))) (v : Verdict ℚ) →
    said style lines ≡ Some (reply.Checked v) → (wide_said style lines ≡ Some (reply.Checked v)) ⊎ IsPast v
same_check style lines v e = from_text lines style start 0 v e
