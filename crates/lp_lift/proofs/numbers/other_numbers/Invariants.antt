-- As many so far as were gone over.
use Rattle.std.proofs.Common.{◌≡◌, length}
use Rattle.lp_lift.proofs.numbers.other_numbers.Given as goal

-- the list has a number for each place that was gone over so far
abbrev pub invariant-loop-j : goal.invariant-loop-j
invariant-loop-j l = length l.list ≡ l.j
