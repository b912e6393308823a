-- Those that still wait are some of those that did, and one more is out.
use Rattle.std.proofs.Common.{arith, subst, sym}
use Rattle.std.proofs.lemmas.List.Elements.{All-drop}
use Rattle.std.specs.List.{All}
use Rattle.lp_base.specs.LinkMemory.{IsUnwritten}
use Rattle.lp_base.specs.declared.mem_event.MemEvent.TheVariants.{Given}
use Rattle.lp_base.proofs.Remembered.{out_after}
use Rattle.lp_base.proofs.mem_listen.MemListenListen.accept.Goals as goal

pub invariant_of-self-2-clause-unwritten : goal.invariant_of-self-2-clause-unwritten
invariant_of-self-2-clause-unwritten c =
    subst (All IsUnwritten) (sym c.in-Some.ensures.rest) (All-drop IsUnwritten 1 _ c.args.self.now.unwritten)

pub invariant_of-self-2-clause-room_to_log : goal.invariant_of-self-2-clause-room_to_log
invariant_of-self-2-clause-room_to_log c =
    let out = out_after _ _ (Given c.of.result) c.push_reserved.ensures.items in
    omega (
      arith,
      c.args.self.now.room_to_log,
      out,
      c.push_reserved.ensures.len,
      c.push_reserved.ensures.capacity,
      c.in-Some.ensures.len,
      c.in-Some.ensures.cases,
    )

pub invariant_of-self-2-clause-room_for_back : goal.invariant_of-self-2-clause-room_for_back
invariant_of-self-2-clause-room_for_back c =
    let out = out_after _ _ (Given c.of.result) c.push_reserved.ensures.items in
    omega (arith, c.args.self.now.room_for_back, out, c.in-Some.ensures.len, c.in-Some.ensures.cases)
