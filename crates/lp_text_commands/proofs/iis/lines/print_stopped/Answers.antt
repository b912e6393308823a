-- Two lines in two pieces.
use Rattle.std.proofs.Common.{[], ◌∷◌}
use Rattle.std.specs.Prelude.{codes}
use Rattle.std.proofs.lemmas.Result.{on_ok_weaker}
use Rattle.spec_server.specs.Output.{ended_lines}
use Rattle.spec_commands.specs.IisOut.{end_words}
use Rattle.lp_text_commands.proofs.SideLines.{one_on, stopped_text}
use Rattle.lp_text_commands.proofs.iis.lines.print_stopped.Goals as goal

pub returns : goal.returns
returns c =
    on_ok_weaker c.print_end.result
    (λ printed. one_on c.args.to.now _ _ (codes "INFEASIBLE\nSTOPPED ") (ended_lines (end_words c.args.end.now ∷ [])) _
    c.in_ok-extend.ensures.ok printed (stopped_text (end_words c.args.end.now)))
    c.print_end.ensures
