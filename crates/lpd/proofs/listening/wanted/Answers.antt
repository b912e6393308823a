-- By what the plan says.
use Rattle.std.proofs.Common.{None, map, ap, sym, ◌∙◌, string_bytes}
use Rattle.lp_command_line.specs.Listening.{planned}
use Rattle.lpd.proofs.Wanted.{are-wanted}
use Rattle.lpd.proofs.listening.wanted.Goals as goal

pub returns-in-Some : goal.returns-in-Some
returns-in-Some c =
    are-wanted (map string_bytes c.args.words.now) _ (ap planned (sym c.in-Some.is) ∙ c.plan.ensures)

pub returns-in-None : goal.returns-in-None
returns-in-None c =
    are-wanted (map string_bytes c.args.words.now) None (ap planned (sym c.in-None.is) ∙ c.plan.ensures)
