-- The line of an answer is that of a reply.
use Rattle.std.proofs.Common.{◌++◌, ap, ◌∙◌}
use Rattle.std.proofs.lemmas.Result.{on_ok_weaker}
use Rattle.lp_text_commands.proofs.SideLines.{answer_line}
use Rattle.lp_text_commands.proofs.iis.lines.print_end.Goals as goal

pub returns : goal.returns
returns c =
    on_ok_weaker c.print_answer.result (λ printed. printed ∙ ap (λ line. c.args.to.now ++ line) (answer_line c.args.end.now))
    c.print_answer.ensures
