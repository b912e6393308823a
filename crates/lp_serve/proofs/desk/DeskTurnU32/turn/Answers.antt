-- One more link is served.
use Rattle.std.proofs.Common.{◌≡◌, length, true, ap, arith, refl, subst}
use Rattle.std.proofs.lemmas.List.{length-map}
use Rattle.lp_base.specs.LinkState.{state_of}
use Rattle.lp_base.specs.Listening.{listener_of}
use Rattle.lp_base.proofs.Logs.{one_out}
use Rattle.lp_workers.specs.declared.hiring.Worker.{Worker}
use Rattle.lp_serve.specs.declared.desk.Desk.{Desk}
use Rattle.lp_serve.specs.Serving.{Served}
use Rattle.lp_serve.proofs.AllServed.{used_of}
use Rattle.lp_serve.proofs.Turning.{Turning, turn_begins, turn_ends, turn_more, turn_fails}
use Rattle.lp_serve.proofs.UsedPass.{turn_used}
use Rattle.lp_serve.proofs.desk.DeskTurnU32.turn.Goals as goal

pub returns-in_default-clause-took : goal.returns-in_default-clause-took
returns-in_default-clause-took g c =
    turn_fails (listener_of g.N.Listen.log g.N.Listen.accept_faults) c.args.board.now c.args.shared.now
    (record { job = c.args.self.now; pass = c.args.pass.now }) c.loop-index.index
    (record { job = c.loop-index.self; pass = c.loop-index.pass }) c.loop-index.invariant _ c.loop-index-test.true refl
    refl c.in_default.ensures.log c.in_default.ensures.cause.later c.in_default.ensures.cause.failed refl

pub returns-in_default-clause-used : goal.returns-in_default-clause-used
returns-in_default-clause-used g c =
    used_of (listener_of g.N.Listen.log g.N.Listen.accept_faults) c.args.board.now c.args.shared.now
    (record { job = c.args.self.now; pass = c.args.pass.now }) _ c.requires.fresh
    (turn_fails (listener_of g.N.Listen.log g.N.Listen.accept_faults) c.args.board.now c.args.shared.now
    (record { job = c.args.self.now; pass = c.args.pass.now }) c.loop-index.index
    (record { job = c.loop-index.self; pass = c.loop-index.pass }) c.loop-index.invariant
    (record {
      job = record c.loop-index.self { net = c.accept.new.self; has_failed = true };
      pass = c.loop-index.pass;
    })
    c.loop-index-test.true refl
    refl c.in_default.ensures.log c.in_default.ensures.cause.later c.in_default.ensures.cause.failed refl)

pub loop-index-init : goal.loop-index-init
loop-index-init g c =
    turn_begins (listener_of g.N.Listen.log g.N.Listen.accept_faults) c.args.board.now
    c.args.shared.now (record { job = c.args.self.now; pass = c.args.pass.now }) c.requires.ready c.requires.fresh

pub serve_link-end-requires : goal.serve_link-end-requires
serve_link-end-requires g c = record { board = c.loop-index.invariant.of_board }

pub give_back-requires : goal.give_back-requires
give_back-requires g c =
    let net = c.loop-index.self.net in
    let now = c.accept.new.self in
    let known = state_of g.N.Link.Source.left g.N.Link.Source.read_faults g.N.Link.Sink.taken
    g.N.Link.Sink.write_faults in
    one_out (g.N.Listen.log net) (g.N.Listen.log now) (known c.in-Ok.link) c.in-Ok.ensures.log.0

pub push_reserved-requires : goal.push_reserved-requires
push_reserved-requires g c =
    let so = c.loop-index.invariant in
    let ends = ap length so.ends in
    omega (
      arith,
      so.room,
      so.many,
      c.loop-index-test.true,
      ends,
      length-map so.links (λ (x : Served). x.ended),
      c.loop-index.self.ends.ok.0,
    )

pub loop-index-preserved : goal.loop-index-preserved
loop-index-preserved g c =
    let so = c.loop-index.invariant in
    let served = c.serve_link-end.ensures in
    let known = state_of g.N.Link.Source.left g.N.Link.Source.read_faults g.N.Link.Sink.taken
    g.N.Link.Sink.write_faults in
    turn_more (listener_of g.N.Listen.log g.N.Listen.accept_faults) c.args.board.now c.args.shared.now
    (record { job = c.args.self.now; pass = c.args.pass.now }) c.loop-index.index
    (record { job = c.loop-index.self; pass = c.loop-index.pass }) so _ c.loop-index-test.true c.accept.new.self
    (known c.in-Ok.link) (known c.serve_link-end.new.link) c.serve_link-end.result served.serves
    c.in-Ok.ensures.log.1 served.read.1 served.write.1 served.board served.share served.consistent served.notes
    c.in-Ok.ensures.log.0 c.in-Ok.ensures.cause.later c.give_back.ensures.log c.give_back.ensures.faults
    c.push_reserved.ensures.items
    (omega (arith, so.room, c.push_reserved.ensures.capacity)) refl

pub returns-clause-took : goal.returns-clause-took
returns-clause-took g c =
    let state = listener_of g.N.Listen.log g.N.Listen.accept_faults in
    let begun : Worker (Desk g.row.N.Denot) = record { job = c.args.self.now; pass = c.args.pass.now } in
    let now : Worker (Desk g.row.N.Denot) = record { job = c.loop-index.self; pass = c.loop-index.pass } in
    let all : c.loop-index.index ≡ c.args.shared.now = omega (arith, c.loop-index-test.false, c.loop-index.auto.index-end) in
    turn_ends state c.args.board.now c.args.shared.now begun now
    (subst (λ index. Turning state c.args.board.now c.args.shared.now begun index now) all c.loop-index.invariant)

pub returns-clause-used : goal.returns-clause-used
returns-clause-used g c =
    let state = listener_of g.N.Listen.log g.N.Listen.accept_faults in
    let begun : Worker (Desk g.row.N.Denot) = record { job = c.args.self.now; pass = c.args.pass.now } in
    let now : Worker (Desk g.row.N.Denot) = record { job = c.loop-index.self; pass = c.loop-index.pass } in
    let all : c.loop-index.index ≡ c.args.shared.now = omega (arith, c.loop-index-test.false, c.loop-index.auto.index-end) in
    turn_used state c.args.board.now c.args.shared.now begun now c.requires.fresh
    (subst (λ index. Turning state c.args.board.now c.args.shared.now begun index now) all c.loop-index.invariant)
