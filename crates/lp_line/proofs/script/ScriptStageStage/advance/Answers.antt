use Rattle.lp_line.proofs.ScriptTurns.{ends_so}
use Rattle.lp_line.proofs.script.ScriptStageStage.advance.Goals as goal

pub returns-in-End : goal.returns-in-End
returns-in-End c = ends_so c.args.self c.args.line.now c.end_of-end.result c.in-End.is c.end_of-end.ensures
