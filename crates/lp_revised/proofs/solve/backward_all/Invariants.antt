-- The loop over the pairs, from the last.
use Rattle.std.proofs.Common.{length}
use Rattle.lp_revised.proofs.BothSolves.{BackwardDone}
use Rattle.lp_revised.proofs.solve.backward_all.Given as goal

-- the last pairs have acted
abbrev pub invariant-loop-done : goal.invariant-loop-done
invariant-loop-done l = BackwardDone (length l.fn.v) l.etas l.fn.v l.done l.v
