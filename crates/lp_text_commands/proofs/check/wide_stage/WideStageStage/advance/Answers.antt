-- A line of the text, and one of the certificate.
use Rattle.lp_text_commands.proofs.WideLines.{leads_from}
use Rattle.lp_text_commands.proofs.check.wide_stage.WideStageStage.advance.Goals as goal

pub returns-in-Text : goal.returns-in-Text
returns-in-Text c = leads_from _ _ _ c.text_line.result c.in-Text.is c.text_line.ensures

pub returns-in-Certificate : goal.returns-in-Certificate
returns-in-Certificate c = leads_from _ _ _ c.certificate_line.result c.in-Certificate.is c.certificate_line.ensures
