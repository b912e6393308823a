-- A write that is tried again has appended nothing.
use Rattle.std.specs.Io.KnownBytes.{Keeps}
use Rattle.lp_net.proofs.again.write_again.Given as goal

abbrev pub invariant-loop : goal.invariant-loop
invariant-loop g l = Keeps (g.W.Write.contents l.initial.to) (g.W.Write.contents l.to)
