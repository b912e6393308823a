-- The loop over the rows.
use Rattle.std.proofs.Common.{◌≡◌, take}
use Rattle.lp_presolve.proofs.copying.copied_rows.Given as goal

-- those so far
abbrev pub invariant-loop-i : goal.invariant-loop-i
invariant-loop-i l = l.rows.items ≡ take l.i l.model.rows
