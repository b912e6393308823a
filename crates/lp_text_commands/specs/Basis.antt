-- Where the reading of `basis` stands, as the definitions have it.
use Rattle.std.specs.Prelude.{ℕ, Option, List}
use Rattle.spec_text.specs.declared.line.Line.{Line}
use Rattle.spec_model.specs.declared.parts.SizeLimits.{SizeLimits}
use Rattle.spec_commands.specs.BasisOut as reading
use Rattle.spec_server.specs.Said as said
use Rattle.lp_line.specs.declared.hearing.Step.{Step}
use Rattle.lp_text_commands.specs.declared.basis.stage.BasisStage.{BasisStage}
use Rattle.lp_text_commands.specs.declared.basis.stage.BasisStage.TheVariants as stage
use Rattle.lp_text_commands.specs.Leading.{step_by, says_by}

-- a state of reading a text and a basis file, with the limits on the model's size
pub record ReadingAt : Type 0 where
  pub limits : SizeLimits
  pub stage : reading.Stage

-- a step of reading the input of `basis`, with the limits of size kept beside a further stage
abbrev pub step_within : SizeLimits → said.Step reading.Stage reading.BasisSaid →
    said.Step ReadingAt reading.BasisSaid
step_within limits (said.On next) = said.On (record { limits = limits; stage = next })
step_within limits (said.Says what) = said.Says what

-- what one more line of the input of `basis` leads to, within the limits that are kept beside the stage
abbrev pub reading_step : ReadingAt → Line (List ℕ) → said.Step ReadingAt reading.BasisSaid
reading_step at line = step_within at.limits (reading.basis_step at.limits at.stage line)

-- the code's state of reading a text and a basis file, as the definitions have it
abbrev pub stage_of : BasisStage → ReadingAt
stage_of (stage.Text reader) =
    record { limits = reader.limits; stage = reading.InText reader.text.style reader.text.state reader.text.lines }
stage_of (stage.File at) = record { limits = at.limits; stage = reading.InFile at.model at.form at.state at.lines }

-- a step of the code's reading of a text and a basis file, as the definitions have it
abbrev pub step_of : Step BasisStage reading.BasisSaid → said.Step ReadingAt reading.BasisSaid
step_of made = step_by stage_of made

-- how many lines were read of the text, or of the file
abbrev pub count_of : BasisStage → ℕ
count_of (stage.Text reader) = reader.text.lines
count_of (stage.File at) = at.lines

-- the answer is what these lines of a text and a basis file say from the code's stage on;
-- none where more lines are needed
abbrev pub BasisSays : BasisStage → List (Line (List ℕ)) → Option reading.BasisSaid → Type 0
BasisSays stage lines answer = says_by stage_of reading_step stage lines answer
