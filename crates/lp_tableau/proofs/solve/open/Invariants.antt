-- The loop over the positions.
use Rattle.std.proofs.Common.{◌≡◌, None}
use Rattle.spec_simplex.specs.Eliminate.{open_below}
use Rattle.lp_tableau.proofs.solve.open.Given as goal

-- no position so far is open
abbrev pub invariant-loop-i : goal.invariant-loop-i
invariant-loop-i l = open_below (record { rows = l.grid; basic = l.basic }) l.j l.i ≡ None
