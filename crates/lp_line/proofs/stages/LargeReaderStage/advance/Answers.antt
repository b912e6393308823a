use Rattle.spec_model.specs.Kept.{large_limits}
use Rattle.lp_line.proofs.StageLines.{text_goes_on, text_spells, text_is_wrong}
use Rattle.lp_line.proofs.stages.LargeReaderStage.advance.Goals as goal

pub returns-in-More : goal.returns-in-More
returns-in-More c = text_goes_on large_limits c.args.self c.feed.new.self c.args.line.now c.in-More.ensures

pub returns-in-Done : goal.returns-in-Done
returns-in-Done c = text_spells large_limits c.args.self c.args.line.now c.in-Done.model c.in-Done.ensures

pub returns-in-Refused : goal.returns-in-Refused
returns-in-Refused c = text_is_wrong large_limits c.args.self c.args.line.now c.in-Refused.fault c.in-Refused.ensures
