use Rattle.std.proofs.Common.{◌≡◌, ◌++◌, replicate}
use Rattle.lp_mps.proofs.write.line.pad.Given as goal

abbrev pub invariant-loop-done : goal.invariant-loop-done
invariant-loop-done l = l.line ≡ l.initial.line ++ replicate (l.done) 32
