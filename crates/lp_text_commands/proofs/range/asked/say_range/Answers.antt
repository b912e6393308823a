-- What is written of what is said.
use Rattle.std.proofs.lemmas.Result.{err_from_is_err_and}
use Rattle.spec_server.specs.TextSaid.{text_said}
use Rattle.spec_commands.specs.RangeOut.{RangeOut, range_code}
use Rattle.lp_text_commands.proofs.Saying.{says_nothing, says, text_agrees}
use Rattle.lp_text_commands.proofs.range.asked.say_range.Goals as goal

pub returns-in_err-said-clause-output : goal.returns-in_err-said-clause-output
returns-in_err-said-clause-output g c =
    let p = err_from_is_err_and c.from_residual.result c.from_residual.ensures.1 in
    says_nothing (text_said c.args.style) (RangeOut c.args.moved c.args.name.now)
    (range_code c.args.moved c.args.name.now) (g.S.Source.left c.args.src.now) (g.S.Source.left c.hear_input.new.src)
    (g.K.Sink.taken c.args.out.now) c.in_err-said.field-0.0
    (c.in_err-said.ensures.output (text_said c.args.style) (text_agrees c.args.style c.new.result c.new.ensures))
    c.from_residual.result p.0 p.1 p.2

pub returns-clause-output : goal.returns-clause-output
returns-clause-output g c =
    says (text_said c.args.style) (RangeOut c.args.moved c.args.name.now) (range_code c.args.moved c.args.name.now)
    (g.S.Source.left c.args.src.now) (g.S.Source.left c.hear_input.new.src) (g.K.Sink.taken c.args.out.now)
    c.in_ok-said.said
    (c.in_ok-said.ensures.output (text_said c.args.style) (text_agrees c.args.style c.new.result c.new.ensures)) _
    c.send_output.result c.send_output.ensures.output
