-- Where the reading of a check with wide numbers stands, as the definitions have it.
use Rattle.std.specs.Prelude.{ℕ, Option, List}
use Rattle.spec_text.specs.declared.line.Line.{Line}
use Rattle.spec_server.specs.Machine.{ExactReply}
use Rattle.spec_commands.specs.CheckOut as reading
use Rattle.spec_commands.specs.CheckWideOut.{wide_step}
use Rattle.spec_server.specs.Said as said
use Rattle.lp_line.specs.declared.hearing.Step.{Step}
use Rattle.lp_text_commands.specs.declared.check.wide_stage.WideStage.{WideStage}
use Rattle.lp_text_commands.specs.declared.check.wide_stage.WideStage.TheVariants as stage
use Rattle.lp_text_commands.specs.Leading.{step_by, says_by}

-- the code's state of reading a text and a certificate with numbers of any width, as the definitions have it
abbrev pub wide_stage_of : WideStage → reading.Stage
wide_stage_of (stage.Text reader) = reading.InText reader.style reader.state reader.lines
wide_stage_of (stage.Certificate model reader) = reading.InCertificate model reader.raw reader.lines

-- a step of the code's reading of a text and a wide certificate, as the definitions have it
abbrev pub wide_step_of : Step WideStage ExactReply → said.Step reading.Stage ExactReply
wide_step_of made = step_by wide_stage_of made

-- how many lines were read of the text, or of the certificate
abbrev pub wide_count_of : WideStage → ℕ
wide_count_of (stage.Text reader) = reader.lines
wide_count_of (stage.Certificate model reader) = reader.lines

-- the answer is what these lines of a text and a wide certificate say from the code's stage on;
-- none where more are needed
abbrev pub WideSays : WideStage → List (Line (List ℕ)) → Option ExactReply → Type 0
WideSays stage lines answer = says_by wide_stage_of wide_step stage lines answer
