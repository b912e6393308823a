-- The one line of an end of which nothing is known.
use Rattle.lp_text_commands.proofs.ExactPrints.{open_line}
use Rattle.lp_text_commands.proofs.basis.wide.print_end.Goals as goal

pub returns-in-Open : goal.returns-in-Open
returns-in-Open c =
    open_line c.args.model.now c.args.end.now c.args.to.now c.extend.new.self c.extend.result c.in-Open.is c.extend.ensures.ok
