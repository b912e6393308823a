-- How the lines of a text, and of a certificate after it, lead from stage to stage.
--
-- `text_counts`: behind a line of a text, the next state has counted no more lines than were read.
-- `leads_from`: a line leads to the state, or to the result, that one step of the reading gives.
use Rattle.std.proofs.Common.{◌≡◌, ℕ, ◌+◌, ◌≤◌, Result, Ok, Err, List, arith, refl, subst}
use Rattle.std.specs.Prelude.{IfOk}
use Rattle.spec_text.specs.declared.line.Line.{Line}
use Rattle.spec_model.specs.Model.{Model}
use Rattle.spec_model.specs.Kept.{usual_limits}
use Rattle.spec_mps.specs.declared.style.Style.{Style}
use Rattle.spec_mps.specs.Steps as text
use Rattle.spec_certificate.specs.declared.progress.Progress.TheVariants as progress
use Rattle.spec_certificate.specs.NarrowText as certificate
use Rattle.spec_server.specs.Machine.{ExactReply}
use Rattle.spec_commands.specs.CheckOut as reading
use Rattle.spec_commands.specs.CheckOut.{check_step}
use Rattle.spec_commands.proofs.CheckLemmas.{end_says}
use Rattle.lp_line.specs.declared.hearing.Step.{Step}
use Rattle.lp_line.specs.Hearing.{Leads}
use Rattle.lp_text_commands.specs.declared.check.stage.CheckStage.{CheckStage}
use Rattle.lp_text_commands.specs.declared.check.stage.CheckStage.TheVariants as stage
use Rattle.lp_text_commands.proofs.LeadingOn as on
use Rattle.lp_text_commands.proofs.LeadingOn.{on_same}
use Rattle.lp_text_commands.specs.Stage.{stage_of, step_of, count_of, CheckSays}

-- ---- a line counts for one

-- how many lines a stage has counted, of the text or of the certificate
abbrev pub lines_in : reading.Stage → ℕ
lines_in (reading.InText style s n) = n
lines_in (reading.InCertificate m raw n) = n

pub text_counts : (style : Style) (n : ℕ) (o : text.Outcome) (next : reading.Stage) →
    reading.behind_text style n o ≡ reading.On next → lines_in next ≤ n
text_counts style n (Ok (text.More s)) next e = subst (λ a. lines_in a ≤ n) (on_same _ next e) (omega arith)
text_counts style n (Ok (text.Done m)) next e = subst (λ a. lines_in a ≤ n) (on_same _ next e) (omega arith)
text_counts style n (Err code) next e = cc

-- behind a line of a certificate, the next state has counted no more lines than were read
certificate_counts : (m : Model) (n : ℕ) (o : certificate.Outcome) (next : reading.Stage) →
    reading.behind_certificate m n o ≡ reading.On next → lines_in next ≤ n
certificate_counts m n (progress.More raw) next e = subst (λ a. lines_in a ≤ n) (on_same _ next e) (omega arith)
certificate_counts m n (progress.Done raw) next e = cc
certificate_counts m n progress.Unfit next e = cc

-- a line leads to a state of the reading that has counted at most one line more
step_counts : (at next : reading.Stage) (line : Line (List ℕ)) → check_step at line ≡ reading.On next →
    lines_in next ≤ lines_in at + 1
unfolding check_step
step_counts (reading.InText style s n) next line e = text_counts style (n + 1) (text.step usual_limits style s line)
    next e
step_counts (reading.InCertificate m raw n) next line e =
    certificate_counts m (n + 1) (certificate.step raw line) next e

-- the code's state of the reading has counted as many lines as the definition's
count_is : (at : CheckStage) → lines_in (stage_of at) ≡ count_of at
count_is (stage.Text reader) = refl
count_is (stage.Certificate model reader) = refl

-- from the stage that self is
pub leads_from : {E : Type 0} (self at : CheckStage) (line : Line (List ℕ))
    (result : Result (Step CheckStage ExactReply) E) →
    self ≡ at → IfOk result (λ made. step_of made ≡ check_step (stage_of at) line) →
    IfOk result (Leads CheckSays count_of self line)
leads_from = on.leads_from stage_of check_step count_of lines_in count_is step_counts end_says
