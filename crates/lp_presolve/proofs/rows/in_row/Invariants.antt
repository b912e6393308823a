-- The loop over the columns.
use Rattle.std.proofs.Common.{◌≡◌}
use Rattle.spec_presolve.specs.Choose.{in_row_below}
use Rattle.lp_presolve.proofs.rows.in_row.Given as goal

-- what is found so far
abbrev pub invariant-loop-j : goal.invariant-loop-j
invariant-loop-j l = l.found ≡ in_row_below l.model l.i l.j
