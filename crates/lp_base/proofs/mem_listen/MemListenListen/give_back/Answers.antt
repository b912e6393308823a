-- One fewer is out.
use Rattle.std.proofs.Common.{arith}
use Rattle.lp_base.specs.declared.mem_event.MemEvent.TheVariants.{Returned}
use Rattle.lp_base.proofs.Remembered.{out_after}
use Rattle.lp_base.proofs.mem_listen.MemListenListen.give_back.Goals as goal

pub invariant_of-self-clause-room_to_log : goal.invariant_of-self-clause-room_to_log
invariant_of-self-clause-room_to_log c =
    let out = out_after _ _ (Returned c.of.result) c.push_reserved.ensures.items in
    omega (
      arith,
      c.args.self.now.room_to_log,
      c.requires,
      out,
      c.push_reserved.ensures.len,
      c.push_reserved.ensures.capacity,
    )

pub invariant_of-self-clause-room_for_back : goal.invariant_of-self-clause-room_for_back
invariant_of-self-clause-room_for_back c =
    let out = out_after _ _ (Returned c.of.result) c.push_reserved.ensures.items in
    omega (
      arith,
      c.args.self.now.room_for_back,
      c.requires,
      out,
      c.push_reserved-2.ensures.len,
      c.push_reserved-2.ensures.capacity,
    )
