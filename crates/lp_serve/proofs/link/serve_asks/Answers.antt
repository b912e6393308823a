-- Where the service begins, goes on and ends.
use Rattle.std.proofs.Common.{◌∙◌, ap, sym, refl, arith}
use Rattle.spec_server.specs.Halves.{Standing}
use Rattle.lp_base.specs.Beside.{SinkState, SourceState}
use Rattle.lp_serve.proofs.LinkTurns.{start}
use Rattle.lp_serve.proofs.LinkLoop.{stops, breaks, ends, goes_on}
use Rattle.lp_serve.proofs.Noting.{none_noted, noted_on}
use Rattle.lp_serve.proofs.link.serve_asks.Goals as goal

pub loop-ask-init : goal.loop-ask-init
loop-ask-init g c = record {
  turn = start _ _ c.args.lines.now c.args.pass.now.view c.args.session.now.state c.requires.lines
      (ap (λ (s : Standing). s.state) c.requires.session);
  rests = ap (λ (s : Standing). s.awaits) c.requires.session;
  board = refl;
  consistent = λ h. h;
  share = refl;
  notes = none_noted _;
  read = omega arith;
  write = omega arith;
}

pub returns-in-Err-clause-serves : goal.returns-in-Err-clause-serves
returns-in-Err-clause-serves g c =
    stops c.loop-ask.invariant.turn _ _ c.next_ask.new.lines _ _ c.next_ask.ensures.beside c.next_ask.result
    c.in-Err.end c.in-Err.is c.next_ask.ensures.asks

pub returns-in-Err-sent-clause-serves : goal.returns-in-Err-sent-clause-serves
returns-in-Err-sent-clause-serves g c =
    breaks c.loop-ask.invariant.turn _ _ _ _ _ c.next_ask.ensures.beside c.next_ask.result c.in-Ok.ask
    c.in-Ok.is c.next_ask.ensures.asks _ _ _ c.step-reply.ensures.step c.step-reply.ensures.calls
    c.step-reply.ensures.consistent _ _ _ _ c.send_reply-sent.ensures.beside c.send_reply-sent.result
    c.in-Err-sent.end c.in-Err-sent.is c.send_reply-sent.ensures.part c.send_reply-sent.ensures.ends

pub returns-then-quits-clause-serves : goal.returns-then-quits-clause-serves
returns-then-quits-clause-serves g c =
    ends c.loop-ask.invariant.turn _ _ _ _ _ c.next_ask.ensures.beside c.next_ask.result c.in-Ok.ask
    c.in-Ok.is c.next_ask.ensures.asks _ _ _ c.step-reply.ensures.step c.step-reply.ensures.calls
    c.step-reply.ensures.consistent _ _ _ _ c.send_reply-sent.ensures.beside c.send_reply-sent.result
    _ c.in_default.is c.send_reply-sent.ensures.ok (sym c.is_quit-quits.ensures ∙ c.if-quits.true)

pub loop-ask-preserved : goal.loop-ask-preserved
loop-ask-preserved g c = record {
  turn = goes_on c.loop-ask.invariant.turn _ _ _ _ _ c.next_ask.ensures.beside c.next_ask.result c.in-Ok.ask
      c.in-Ok.is c.next_ask.ensures.asks _ _ _ c.step-reply.ensures.step c.step-reply.ensures.calls
      c.step-reply.ensures.consistent _ _ _ _ c.send_reply-sent.ensures.beside c.send_reply-sent.result
      _ c.in_default.is c.send_reply-sent.ensures.ok (sym c.is_quit-quits.ensures ∙ c.if-quits.false);
  rests = c.step-reply.ensures.rests;
  board = c.step-reply.ensures.board ∙ c.loop-ask.invariant.board;
  consistent = λ h. c.step-reply.ensures.consistent (c.loop-ask.invariant.consistent h);
  share = c.step-reply.ensures.share ∙ c.loop-ask.invariant.share;
  notes = noted_on _ _ _ c.loop-ask.invariant.notes c.step-reply.ensures.notes;
  read = omega (
    arith,
    c.next_ask.ensures.cause.0,
    ap (λ (s : SourceState). s.read_faults) c.send_reply-sent.ensures.beside,
  );
  write = omega (
    arith,
    c.send_reply-sent.ensures.cause.0,
    ap (λ (s : SinkState). s.write_faults) c.next_ask.ensures.beside,
  );
}

pub returns-in-Err-sent-clause-notes : goal.returns-in-Err-sent-clause-notes
returns-in-Err-sent-clause-notes g c = noted_on _ _ _ c.loop-ask.invariant.notes c.step-reply.ensures.notes

pub returns-then-quits-clause-notes : goal.returns-then-quits-clause-notes
returns-then-quits-clause-notes g c = noted_on _ _ _ c.loop-ask.invariant.notes c.step-reply.ensures.notes
