-- One more ask is answered.
use Rattle.std.proofs.Common.{◌++◌, [], ◌∷◌, refl, ap, ◌∙◌, arith}
use Rattle.lp_workers.specs.declared.hiring.Worker.{Worker}
use Rattle.lp_script.specs.declared.part.Part.{Part}
use Rattle.lp_workers.proofs.Gathering.{none_left}
use Rattle.lp_script.proofs.OneMore.{hired_same, turn_begins, turn_more, turn_ends, used_of}
use Rattle.lp_script.proofs.part.PartTurn.turn.Goals as goal

pub loop-asked-init : goal.loop-asked-init
loop-asked-init g c =
    turn_begins c.args.board.now (record { job = c.args.self.now; pass = c.args.pass.now }) c.requires.ready
    c.requires.fresh

pub loop-asked-preserved : goal.loop-asked-preserved
loop-asked-preserved g c =
    let so = c.loop-asked.invariant in
    let now : Worker Part = record { job = c.loop-asked.self; pass = c.loop-asked.pass } in
    let asks = ap (λ v. v.len) c.answer-reply.ensures.asks in
    let replies = ap (λ v. v.len) c.answer-reply.ensures.replies in
    let room = ap (λ v. v.cap) c.answer-reply.ensures.replies in
    turn_more c.args.board.now c.args.self.now.asks.items now so c.in-Some.asked c.pop.new.self.items
    c.in-Some.ensures.items c.answer-reply.result _
    (hired_same c.args.board.now (record { job = c.answer-reply.new.self; pass = c.answer-reply.new.pass }) _ refl refl
    refl c.answer-reply.ensures.hired)
    (c.answer-reply.ensures.had so.done c.loop-asked.self.replies.items so.serving.had)
    (ap (λ v. v.items) c.answer-reply.ensures.asks)
    (c.push_reserved.ensures.items ∙ ap (λ v. v.items ++ c.answer-reply.result ∷ []) c.answer-reply.ensures.replies)
    (omega (
      arith,
      so.serving.room,
      c.in-Some.ensures.cases,
      c.push_reserved.ensures.len,
      c.push_reserved.ensures.capacity,
      asks,
      replies,
      room,
    ))

pub returns-clause-took : goal.returns-clause-took
returns-clause-took g c =
    let left = c.loop-asked.self.asks in
    let now = c.pop.new.self in
    turn_ends c.args.board.now c.args.self.now.asks.items
    (record { job = c.loop-asked.self; pass = c.loop-asked.pass }) c.loop-asked.invariant
    (none_left left.items left.len left.ok.0 c.in_default.ensures.cases.0)
    (record { job = record c.loop-asked.self { asks = now }; pass = c.loop-asked.pass }) refl refl refl refl
    (none_left now.items now.len now.ok.0 c.in_default.ensures.cases.1) (omega (arith, c.in_default.ensures.cases))

pub returns-clause-used : goal.returns-clause-used
returns-clause-used g c =
    used_of c.args.board.now c.loop-asked.invariant.done
    (record { job = c.loop-asked.self; pass = c.loop-asked.pass }) c.loop-asked.invariant.serving
