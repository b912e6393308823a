-- What is known behind its word.
use Rattle.std.proofs.lemmas.Result.{on_ok_weaker}
use Rattle.lp_text_commands.proofs.WideLines.{yes_line}
use Rattle.lp_text_commands.proofs.check.wide.print_yes.Goals as goal

pub returns : goal.returns
returns c =
    on_ok_weaker c.push.result
    (λ pushed. yes_line c.args.what.now c.args.to.now _ _ _ c.in_ok-extend.ensures.ok c.in_ok-push_wide_known.ensures
    pushed)
    c.push.ensures.ok
