-- Where the reading of `check` stands, as the definitions have it.
use Rattle.std.specs.Prelude.{ℕ, Option, List}
use Rattle.spec_text.specs.declared.line.Line.{Line}
use Rattle.spec_server.specs.Machine.{ExactReply}
use Rattle.spec_commands.specs.CheckOut as reading
use Rattle.spec_server.specs.Said as said
use Rattle.lp_line.specs.declared.hearing.Step.{Step}
use Rattle.lp_text_commands.specs.declared.check.stage.CheckStage.{CheckStage}
use Rattle.lp_text_commands.specs.declared.check.stage.CheckStage.TheVariants as stage
use Rattle.lp_text_commands.specs.Leading.{step_by, says_by}

-- the code's state of reading a text and a certificate, as the definitions have it
abbrev pub stage_of : CheckStage → reading.Stage
stage_of (stage.Text reader) = reading.InText reader.style reader.state reader.lines
stage_of (stage.Certificate model reader) = reading.InCertificate model reader.raw reader.lines

-- a step of the code's reading of a text and a certificate, as the definitions have it
abbrev pub step_of : Step CheckStage ExactReply → said.Step reading.Stage ExactReply
step_of made = step_by stage_of made

-- how many lines were read of the text, or of the certificate
abbrev pub count_of : CheckStage → ℕ
count_of (stage.Text reader) = reader.lines
count_of (stage.Certificate model reader) = reader.lines

-- the answer is what these lines of a text and a certificate say from the code's stage on; none where more are needed
abbrev pub CheckSays : CheckStage → List (Line (List ℕ)) → Option ExactReply → Type 0
CheckSays stage lines answer = says_by stage_of reading.check_step stage lines answer
