-- The loop over the columns.
use Rattle.std.proofs.Common.{◌≡◌, take}
use Rattle.lp_presolve.proofs.copying.copied_columns.Given as goal

-- those so far
abbrev pub invariant-loop-j : goal.invariant-loop-j
invariant-loop-j l = l.columns.items ≡ take l.j l.model.columns
