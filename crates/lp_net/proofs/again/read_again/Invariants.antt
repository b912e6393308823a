-- A read that is tried again has consumed nothing.
use Rattle.std.specs.Io.KnownBytes.{Keeps}
use Rattle.lp_net.proofs.again.read_again.Given as goal

abbrev pub invariant-loop : goal.invariant-loop
invariant-loop g l = Keeps (g.R.Read.remaining l.initial.from) (g.R.Read.remaining l.from)
