use Rattle.std.proofs.Common.{sym, ◌∙◌}
use Rattle.lp_line.proofs.ScriptTurns.{skips, commands}
use Rattle.lp_line.proofs.script.line_between.Goals as goal

pub returns-in-Some : goal.returns-in-Some
returns-in-Some c =
    commands c.args.addressing c.args.line.now c.in-Some.addressed c.begin.result c.requires
    (sym c.in-Some.is ∙ c.in_ok-addressed.ensures) c.begin.ensures

pub returns-in-None : goal.returns-in-None
returns-in-None c = skips c.args.addressing c.args.line.now c.requires (sym c.in-None.is ∙ c.in_ok-addressed.ensures)
