-- The loop over the items.
use Rattle.std.proofs.Common.{All, take}
use Rattle.spec_exact.specs.Narrow.{IsNarrow}
use Rattle.lp_revised.proofs.items.tell_narrow.Given as goal

-- those that were looked at
abbrev pub invariant-loop-i : goal.invariant-loop-i
invariant-loop-i l = All IsNarrow (take l.i l.v)
