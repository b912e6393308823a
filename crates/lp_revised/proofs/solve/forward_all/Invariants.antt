-- The loop over the pairs.
use Rattle.std.proofs.Common.{length}
use Rattle.lp_revised.proofs.BothSolves.{ForwardDone}
use Rattle.lp_revised.proofs.solve.forward_all.Given as goal

-- the pairs so far have acted
abbrev pub invariant-loop-eta : goal.invariant-loop-eta
invariant-loop-eta l = ForwardDone (length l.fn.v) l.etas l.fn.v l.eta-index l.v
