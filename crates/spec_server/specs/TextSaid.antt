-- What is said of the lines of a text: the model that it spells, or what is wrong with it.
use Rattle.std.specs.Prelude.{ℕ, ◌+◌, Option, Result, Ok, Err, List}
use Rattle.spec_text.specs.declared.line.Line.{Line}
use Rattle.spec_model.specs.declared.parts.SizeLimits.{SizeLimits}
use Rattle.spec_model.specs.Model.{Model}
use Rattle.spec_model.specs.Kept.{usual_limits}
use Rattle.spec_mps.specs.declared.fault.MpsFault.{MpsFault}
use Rattle.spec_mps.specs.declared.style.Style.{Style}
use Rattle.spec_mps.specs.Reader.{State, start}
use Rattle.spec_mps.specs.Steps as text
use Rattle.spec_server.specs.Said.{Step, On, Says, said_by}

-- a stage in reading a model's text: the reader's state, and how many lines were read
pub record TextStage : Type 0 where
  pub state : State
  pub lines : ℕ

-- the model that a text spells, or its first wrong line and the fault
abbrev pub TextSaid : Type 0
TextSaid = Result Model MpsFault

-- what line n of a model's text leads to: a further stage of the reading, the model, or a fault in line n
abbrev pub behind_line : ℕ → text.Outcome → Step TextStage TextSaid
behind_line n (Ok (text.More s)) = On (record { state = s; lines = n })
behind_line n (Ok (text.Done m)) = Says (Ok m)
behind_line n (Err code) = Says (Err (record { line = n; code = code }))

-- what one more line of a model's text leads to: a further stage, the model, or the line's fault
unfoldable pub text_step : SizeLimits → Style → TextStage → Line (List ℕ) → Step TextStage TextSaid
text_step limits style stage line = behind_line (stage.lines + 1) (text.step limits style stage.state line)

-- what lines of a model's text say: the model within these limits, or the first fault; none where more lines are needed
abbrev pub text_said_within : SizeLimits → Style → List (Line (List ℕ)) → Option TextSaid
text_said_within limits style lines = said_by (text_step limits style) (record { state = start; lines = 0 }) lines

-- what lines of a model's text say: the model within the usual limits, or the first fault; none where more are needed
abbrev pub text_said : Style → List (Line (List ℕ)) → Option TextSaid
text_said = text_said_within usual_limits
