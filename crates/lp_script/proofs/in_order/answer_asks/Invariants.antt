-- The loop over the asks.
use Rattle.std.proofs.Common.{◌-◌, ◌^◌, ◌≤◌}
use Rattle.lp_script.proofs.Turns.{Turn}
use Rattle.lp_script.proofs.in_order.answer_asks.Given as goal

abbrev pub invariant-loop-asked : goal.invariant-loop-asked
invariant-loop-asked g l = record {
  turn : Turn l.fn.sessions.sharing.places (g.S.Source.left l.fn.src) (g.S.Source.left l.src) (g.K.Sink.taken l.fn.out)
      (g.K.Sink.taken l.out) l.lines l.sessions;
  read : g.S.Source.read_faults l.fn.src ≤ g.S.Source.read_faults l.src;
  write : g.K.Sink.write_faults l.fn.out ≤ g.K.Sink.write_faults l.out;
}

abbrev pub decreases-loop-asked : goal.decreases-loop-asked
decreases-loop-asked g l = 2 ^ 26 - l.lines.given
