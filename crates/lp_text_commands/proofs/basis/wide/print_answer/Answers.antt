-- The lines, one after the other.
use Rattle.lp_text_commands.proofs.ExactPrints.{answer_lines}
use Rattle.lp_text_commands.proofs.basis.wide.print_answer.Goals as goal

pub returns : goal.returns
returns c =
    answer_lines c.args.model.now c.args.answer.now c.args.to.now c.push_wide_known.new.to c.push.new.self
    c.push_origin.new.to c.push-2.new.self c.print_lines.new.to c.in_ok-lines.lines c.print_lines.result
    c.in_ok-push_wide_known.ensures c.in_ok-push.ensures.ok c.in_ok-push_origin.ensures c.in_ok-push-2.ensures.ok
    c.in_ok-lines.ensures c.print_lines.ensures.ok
