-- As many so far as were gone over.
use Rattle.std.proofs.Common.{◌≡◌, length}
use Rattle.lp_lift.proofs.numbers.numbers.Given as goal

-- the list has a number for each place that was gone over so far
abbrev pub invariant-loop-k : goal.invariant-loop-k
invariant-loop-k l = length l.list ≡ l.k
