-- A line of the text, and one of the file.
use Rattle.lp_text_commands.proofs.BasisLines.{leads_from}
use Rattle.lp_text_commands.proofs.basis.stage.BasisStageStage.advance.Goals as goal

pub returns-in-Text : goal.returns-in-Text
returns-in-Text c = leads_from _ _ _ c.text_line.result c.in-Text.is c.text_line.ensures

pub returns-in-File : goal.returns-in-File
returns-in-File c = leads_from _ _ _ c.file_line.result c.in-File.is c.file_line.ensures
