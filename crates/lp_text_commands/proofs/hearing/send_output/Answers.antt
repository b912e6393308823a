-- Nothing where memory was wanting; a prefix where the sink fails; and all.
use Rattle.std.proofs.Common.{Ok, refl}
use Rattle.std.proofs.lemmas.Result.{err_from_is_err_and}
use Rattle.lp_text_commands.proofs.Saying.{sends_none, sends, sends_in_part, writes_sent}
use Rattle.lp_text_commands.proofs.hearing.send_output.Goals as goal

pub returns-in_err-status-clause-output : goal.returns-in_err-status-clause-output
returns-in_err-status-clause-output g c =
    let p = err_from_is_err_and c.from_residual.result c.from_residual.ensures.1 in
    sends_none (g.O.Output.may_write c.args.said) (g.O.Output.code c.args.said) (g.K.Sink.taken c.args.out.now)
    c.from_residual.result p.0 p.1 p.2

pub returns-in_err-send-clause-output : goal.returns-in_err-send-clause-output
returns-in_err-send-clause-output g c =
    let p = err_from_is_err_and c.from_residual-in_err-send.result c.from_residual-in_err-send.ensures.1 in
    writes_sent (g.O.Output.may_write c.args.said) (g.O.Output.code c.args.said) c.new-text.result c.print.new.to
    c.new-text.ensures (g.K.Sink.taken c.args.out.now) (g.K.Sink.taken c.send.new.out) (Ok c.in_ok-status.status)
    c.in_ok-status.ensures.output c.in_ok-status.ensures.status c.from_residual-in_err-send.result
    (sends_in_part (Ok c.in_ok-status.status) c.print.new.to (g.K.Sink.taken c.args.out.now) c.in_ok-status.status refl
    c.as_slice.result.now c.as_slice.ensures (g.K.Sink.taken c.send.new.out) c.send.ensures.part
    c.from_residual-in_err-send.result p.0 p.1 p.2)

pub returns-clause-output : goal.returns-clause-output
returns-clause-output g c =
    writes_sent (g.O.Output.may_write c.args.said) (g.O.Output.code c.args.said) c.new-text.result c.print.new.to
    c.new-text.ensures (g.K.Sink.taken c.args.out.now) (g.K.Sink.taken c.send.new.out) (Ok c.in_ok-status.status)
    c.in_ok-status.ensures.output c.in_ok-status.ensures.status (Ok c.in_ok-status.status)
    (sends (Ok c.in_ok-status.status) c.print.new.to (g.K.Sink.taken c.args.out.now) c.in_ok-status.status refl
    c.as_slice.result.now c.as_slice.ensures (g.K.Sink.taken c.send.new.out) c.in_ok-send.ensures.ok)
