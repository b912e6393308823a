-- What the reader answers to a line that is refused, and to one that ends a text.
--
-- `refusal`: where the step of a line fails, the reader's answer says so of the line with the next number.
-- `ended_within`: a model with which a line ends the text is within the limits of the reader.
use Rattle.std.proofs.Common.{◌≡◌, ℕ, ◌+◌, Ok, List, subst}
use Rattle.spec_text.specs.declared.line.Line.{Line}
use Rattle.spec_model.specs.Model.{Model}
use Rattle.spec_model.specs.Kept.{IsWithin}
use Rattle.spec_mps.specs.declared.fault.MpsFault.{MpsFault}
use Rattle.spec_mps.specs.declared.style.Style.{Style}
use Rattle.spec_mps.specs.Steps.{Outcome, Done, step}
use Rattle.lp_mps.specs.declared.read.fault.Fault.{Fault}
use Rattle.lp_base.specs.declared.feed.Feed.{Feed}
use Rattle.lp_mps.specs.Answer.{Fails}
use Rattle.lp_mps.specs.Feeds.{Feeds}
use Rattle.lp_mps.specs.Leads.{IsReached}
use Rattle.lp_mps.specs.TextRead.{TextRead, ReadWithin}
use Rattle.lp_mps.proofs.LineRuns.{done_within}

abbrev step_of : ReadWithin → Line (List ℕ) → Outcome
step_of r line = step r.limits r.text.style r.text.state line

pub refusal : (v old : ReadWithin) (new : TextRead) (line : Line (List ℕ)) (fault : Fault)
    (answer : Feed Model MpsFault) → v ≡ old →
    ((outcome : Outcome) (style : Style) (new : TextRead) →
    Fails outcome fault → Feeds outcome style (v.text.lines + 1) new answer) →
    Fails (step_of v line) fault → Feeds (step_of old line) old.text.style (old.text.lines + 1) new answer
refusal v old new line fault answer e f h =
    subst (λ r. Feeds (step_of r line) r.text.style (r.text.lines + 1) new answer) e
    (f (step_of v line) v.text.style new h)

pub ended_within : (v old : ReadWithin) (line : Line (List ℕ)) (m : Model) → v ≡ old →
    IsReached v.limits v.text.style v.text.state → step_of v line ≡ Ok (Done m) → IsWithin old.limits m
ended_within v old line m e r h =
    subst (λ (r : ReadWithin). IsWithin r.limits m) e (done_within v.limits v.text.style v.text.state line m r h).few
