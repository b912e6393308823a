-- Both lines are the same.
use Rattle.std.proofs.Common.{◌++◌, ap, sym, ◌∙◌}
use Rattle.std.proofs.lemmas.Result.{on_ok_weaker}
use Rattle.lp_text_commands.proofs.WideLines.{same_line}
use Rattle.lp_text_commands.proofs.check.wide.print_narrow.Goals as goal

pub returns-clause-output : goal.returns-clause-output
returns-clause-output c =
    on_ok_weaker c.print.result
    (λ printed. printed.behind
    ∙ ap (λ line. c.args.to.now ++ line) (printed.is_output ∙ sym (same_line c.args.reply c.requires)))
    c.print.ensures.output
