-- Those so far.
use Rattle.std.proofs.Common.{◌≡◌, take}
use Rattle.lp_solve.proofs.widened.widened.Given as goal

abbrev pub invariant-loop-i : goal.invariant-loop-i
invariant-loop-i l = l.wide.items ≡ take l.i l.numbers
