-- The loop over the replies.
use Rattle.std.proofs.Common.{◌≤◌, length, take}
use Rattle.std.specs.Io.KnownBytes.{Appends}
use Rattle.std.specs.List.{zip}
use Rattle.lp_script.proofs.Replying.{out_of}
use Rattle.lp_script.proofs.side_by_side.write.Given as goal

abbrev pub invariant-loop-session : goal.invariant-loop-session
invariant-loop-session g l = record {
  written : Appends (g.K.Sink.taken l.fn.out) (g.K.Sink.taken l.out)
      (out_of (take (length l.yielded) (zip l.sessions l.replies)));
  write : g.K.Sink.write_faults l.fn.out ≤ g.K.Sink.write_faults l.out;
}
