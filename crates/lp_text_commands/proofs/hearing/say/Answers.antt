-- What is written of what is said.
use Rattle.std.proofs.Common.{Ok, refl}
use Rattle.std.proofs.lemmas.Result.{err_from_is_err_and}
use Rattle.lp_text_commands.proofs.Saying.{says_nothing, says, sends_none, sends, sends_in_part, writes_sent}
use Rattle.lp_text_commands.proofs.hearing.say.Goals as goal

pub returns-in_err-said-clause-output : goal.returns-in_err-said-clause-output
returns-in_err-said-clause-output g c = λ tells agrees.
    let p = err_from_is_err_and c.from_residual.result c.from_residual.ensures.1 in
    says_nothing tells g.T.Said.Output.may_write g.T.Said.Output.code (g.S.Source.left c.args.src.now)
    (g.S.Source.left c.hear_input.new.src) (g.K.Sink.taken c.args.out.now) c.in_err-said.field-0.0
    (c.in_err-said.ensures.output tells agrees)
    c.from_residual.result p.0 p.1 p.2

pub returns-in_err-status-clause-output : goal.returns-in_err-status-clause-output
returns-in_err-status-clause-output g c = λ tells agrees.
    let p = err_from_is_err_and c.from_residual-in_err-status.result c.from_residual-in_err-status.ensures.1 in
    says tells g.T.Said.Output.may_write g.T.Said.Output.code (g.S.Source.left c.args.src.now)
    (g.S.Source.left c.hear_input.new.src) (g.K.Sink.taken c.args.out.now) c.in_ok-said.said
    (c.in_ok-said.ensures.output tells agrees) _ c.from_residual-in_err-status.result
    (sends_none (g.T.Said.Output.may_write c.in_ok-said.said) (g.T.Said.Output.code c.in_ok-said.said)
    (g.K.Sink.taken c.args.out.now) c.from_residual-in_err-status.result p.0 p.1 p.2)

pub returns-in_err-send-clause-output : goal.returns-in_err-send-clause-output
returns-in_err-send-clause-output g c = λ tells agrees.
    let p = err_from_is_err_and c.from_residual-in_err-send.result c.from_residual-in_err-send.ensures.1 in
    says tells g.T.Said.Output.may_write g.T.Said.Output.code (g.S.Source.left c.args.src.now)
    (g.S.Source.left c.hear_input.new.src) (g.K.Sink.taken c.args.out.now) c.in_ok-said.said
    (c.in_ok-said.ensures.output tells agrees) _ c.from_residual-in_err-send.result
    (writes_sent (g.T.Said.Output.may_write c.in_ok-said.said) (g.T.Said.Output.code c.in_ok-said.said)
    c.new-text.result c.print.new.to c.new-text.ensures (g.K.Sink.taken c.args.out.now)
    (g.K.Sink.taken c.send.new.out) (Ok c.in_ok-status.status) c.in_ok-status.ensures.output
    c.in_ok-status.ensures.status c.from_residual-in_err-send.result
    (sends_in_part (Ok c.in_ok-status.status) c.print.new.to (g.K.Sink.taken c.args.out.now) c.in_ok-status.status refl
    c.as_slice.result.now c.as_slice.ensures (g.K.Sink.taken c.send.new.out) c.send.ensures.part
    c.from_residual-in_err-send.result p.0 p.1 p.2))

pub returns-clause-output : goal.returns-clause-output
returns-clause-output g c = λ tells agrees.
    says tells g.T.Said.Output.may_write g.T.Said.Output.code (g.S.Source.left c.args.src.now)
    (g.S.Source.left c.hear_input.new.src) (g.K.Sink.taken c.args.out.now) c.in_ok-said.said
    (c.in_ok-said.ensures.output tells agrees) _ (Ok c.in_ok-status.status)
    (writes_sent (g.T.Said.Output.may_write c.in_ok-said.said) (g.T.Said.Output.code c.in_ok-said.said)
    c.new-text.result c.print.new.to c.new-text.ensures (g.K.Sink.taken c.args.out.now)
    (g.K.Sink.taken c.send.new.out) (Ok c.in_ok-status.status) c.in_ok-status.ensures.output
    c.in_ok-status.ensures.status (Ok c.in_ok-status.status)
    (sends (Ok c.in_ok-status.status) c.print.new.to (g.K.Sink.taken c.args.out.now) c.in_ok-status.status refl
    c.as_slice.result.now c.as_slice.ensures (g.K.Sink.taken c.send.new.out) c.in_ok-send.ensures.ok))
