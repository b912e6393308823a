-- As many so far as were gone over.
use Rattle.std.proofs.Common.{◌≡◌, length}
use Rattle.lp_float.proofs.end.fitted.Given as goal

-- the list has a status for each column and row that was gone over so far
abbrev pub invariant-loop-k : goal.invariant-loop-k
invariant-loop-k l = length l.list.items ≡ l.k
