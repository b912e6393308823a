-- The power so far.
use Rattle.std.proofs.Common.{◌≡◌, ◌^◌}
use Rattle.lp_solve.proofs.lines.squared.Given as goal

abbrev pub invariant-loop-i : goal.invariant-loop-i
invariant-loop-i l = l.power ≡ l.word ^ (2 ^ l.i)
