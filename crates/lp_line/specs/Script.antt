-- Where the reading of a script stands, and what its lines say.
use Rattle.std.specs.Prelude.{ℕ, ◌≡◌, ◌≤◌, ◌+◌, List, [], ◌∷◌, ◌++◌, Option, Some, None, Result, Ok, Err}
use Rattle.spec_text.specs.declared.line.Line.{Line}
use Rattle.spec_text.specs.declared.line.Line.TheVariants as line
use Rattle.spec_model.specs.Kept.{usual_limits}
use Rattle.spec_mps.specs.declared.style.Style.{Style}
use Rattle.spec_mps.specs.Reader.{start}
use Rattle.spec_mps.specs.Steps as text
use Rattle.spec_certificate.specs.NarrowText as certificate
use Rattle.spec_server.specs.declared.addressing.Addressing.{Addressing}
use Rattle.spec_server.specs.declared.asks.Asked.{Asked}
use Rattle.spec_server.specs.Machine.{ExactAsk}
use Rattle.spec_server.specs.Command.{ExactCommand}
use Rattle.spec_server.specs.Said.{Step, On, Says, said_by}
use Rattle.spec_server.specs.TextSaid.{TextSaid, text_step}
use Rattle.spec_server.specs.Script.{Pending, Between, Text, Certificate, Ending, Ended, Cut, Over, ending_by, begun}
use Rattle.spec_server.specs.Script.{asks_of_command, pending_after_line, asks_of_line}
use Rattle.lp_mps.specs.TextRead as text_reading
use Rattle.lp_line.specs.declared.body.Body.{Body}
use Rattle.lp_line.specs.declared.halt.Halt.{Halt}
use Rattle.lp_line.specs.declared.halt.Halt.TheVariants as halts
use Rattle.lp_line.specs.declared.hearing.Step as code
use Rattle.lp_line.specs.declared.hearing.Step.TheVariants as step
use Rattle.lp_line.specs.declared.script.ScriptStage.{ScriptStage}
use Rattle.lp_line.specs.declared.script.ScriptStage.TheVariants as stage
use Rattle.lp_line.specs.Body.{BodySays, count_in}
use Rattle.lp_line.specs.Stages.{NarrowRead, TextSays, CertificateSaid, certificate_step, CertificateSays}

-- ---- the lines of a script, one by one, with all lines of a body

-- the next request, or none where the input ends before one, or why the reading halted
abbrev pub NextAsk : Type 0
NextAsk = Result (Option (Asked ExactAsk)) Halt

-- what the reading of a script gives where the input ends: no request between two commands; else the halt, cut off
-- inside a text or certificate, or too long
abbrev pub taken_at : Ending → NextAsk
taken_at Ended = Ok None
taken_at Cut = Err halts.Cut
taken_at Over = Err halts.Over

-- what a line leads to by the requests that it completes: the first of them, or where there is none the next state
abbrev pub behind_asks : List (Asked ExactAsk) → Pending → Step Pending NextAsk
behind_asks [] next = On next
behind_asks (asked ∷ more) next = Says (Ok (Some asked))

-- where a line leads: a request that it completes, or the next state of the script, or the script's end
unfoldable pub script_step : Addressing → Pending → Line (List ℕ) → Step Pending NextAsk
script_step addressing pending (line.Text bytes) =
    behind_asks (asks_of_line addressing pending (line.Text bytes))
    (pending_after_line addressing pending (line.Text bytes))
script_step addressing pending (line.Long len) =
    behind_asks (asks_of_line addressing pending (line.Long len))
    (pending_after_line addressing pending (line.Long len))
script_step addressing pending line.End = Says (taken_at (ending_by pending))
script_step addressing pending line.Over =
    behind_asks (asks_of_line addressing pending line.Over) (pending_after_line addressing pending line.Over)

-- ---- what is held of a body says of its further lines what a script says

-- the state of a text's reader fits these lines: it gives for further lines the result of all lines
abbrev pub TextFits : Style → List (Line (List ℕ)) → Body text_reading.TextRead TextSaid → Type 0
TextFits form lines body =
    (more : List (Line (List ℕ))) (answer : Option TextSaid) → BodySays TextSays body more answer →
    said_by (text_step usual_limits form) (record { state = start; lines = 0 }) (lines ++ more) ≡ answer

-- the state of a certificate's reader fits these lines: it gives for further lines the result of all lines
abbrev pub CertificateFits : List (Line (List ℕ)) → Body NarrowRead CertificateSaid → Type 0
CertificateFits lines body =
    (more : List (Line (List ℕ))) (answer : Option CertificateSaid) → BodySays CertificateSays body more answer →
    said_by certificate_step (record { raw = None; lines = 0 }) (lines ++ more) ≡ answer

-- the code's state of reading a script is that of the definition, with the same session and lines
abbrev pub Fits : Addressing → Pending → ScriptStage → Type 0
Fits addressing Between (stage.Between own) = own ≡ addressing
Fits addressing (Text session form lines) (stage.Text own body) = (own ≡ session) × TextFits form lines body
Fits addressing (Certificate session lines) (stage.Certificate own body) = (own ≡ session) × CertificateFits lines body
Fits addressing pending other = ⊥

-- the answer is what these lines say of a script from this stage on: a request, its end or a halt; none where more
-- lines are needed
abbrev pub ScriptSays : ScriptStage → List (Line (List ℕ)) → Option NextAsk → Type 0
ScriptSays here lines answer =
    (addressing : Addressing) (pending : Pending) → Fits addressing pending here →
    said_by (script_step addressing) pending lines ≡ answer

-- how many lines of a text or certificate were read, and one for the line of its command; 1 once the result of the body
-- is known, and 0 between two commands
abbrev pub lines_in : ScriptStage → ℕ
lines_in (stage.Between addressing) = 0
lines_in (stage.Text session body) = count_in (λ (reader : text_reading.TextRead). reader.lines) body + 1
lines_in (stage.Certificate session body) =
    count_in (λ (reader : NarrowRead). reader.lines) body + 1

-- ---- parts of a step

-- what the reading gives where the input ends in this stage of a script
abbrev pub IsEndOf : ScriptStage → NextAsk → Type 0
IsEndOf here end =
    (addressing : Addressing) (pending : Pending) → Fits addressing pending here → taken_at (ending_by pending) ≡ end

-- behind this command a text or certificate begins, and `next` is the stage at which nothing of it was read
pub record BeginsBody (session : ℕ) (command : ExactCommand) (next : ScriptStage) : Type 0 where
  pub none : asks_of_command session command ≡ []
  pub fits : (addressing : Addressing) → Fits addressing (begun session command) next
  pub counts : lines_in next ≤ 1

-- there is one request, and the reading gives it
abbrev pub Asks : List (Asked ExactAsk) → NextAsk → Type 0
Asks asks what = (asked : Asked ExactAsk) × (what ≡ Ok (Some asked)) × (asks ≡ asked ∷ [])

-- what the code makes of a command fits: the stage with which its text or certificate begins, or its request
abbrev pub Begins : ℕ → ExactCommand → code.Step ScriptStage NextAsk → Type 0
Begins session command (step.On next) = BeginsBody session command next
Begins session command (step.Says what) = Asks (asks_of_command session command) what

-- the verdict on a model's text as what is said of it: the model, or the first wrong line and its fault
abbrev pub verdict_said : text.Verdict → TextSaid
verdict_said (text.Spelled m) = Ok m
verdict_said (text.Refused n code) = Err (record { line = n; code = code })

-- the judgement of a certificate's text as a result: the certificate that the lines spell, or the line that is refused
abbrev pub judgement_said : certificate.Judgement → CertificateSaid
judgement_said (certificate.Spelled raw) = Ok raw
judgement_said (certificate.Refused n) = Err n
