use Rattle.lp_line.proofs.StageLines.{certificate_goes_on, certificate_spells, certificate_is_unfit}
use Rattle.lp_line.proofs.stages.CertReaderStage.advance.Goals as goal

pub returns-in-More : goal.returns-in-More
returns-in-More c = certificate_goes_on c.args.self c.feed.new.self c.args.line.now c.in-More.ensures

pub returns-in-Done : goal.returns-in-Done
returns-in-Done c = certificate_spells c.args.self c.args.line.now c.in-Done.raw c.in-Done.ensures

pub returns-in-Refused : goal.returns-in-Refused
returns-in-Refused c = certificate_is_unfit c.args.self c.args.line.now c.in-Refused.unfit c.in-Refused.ensures
