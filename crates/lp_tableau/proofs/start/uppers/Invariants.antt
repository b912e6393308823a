-- The loop over the rows.
use Rattle.std.proofs.Common.{◌≡◌, ◌++◌, map, take}
use Rattle.spec_simplex.specs.Start.{artificial_upper}
use Rattle.lp_tableau.proofs.start.uppers.Given as goal

-- the artificials so far are there
abbrev pub invariant-loop-start : goal.invariant-loop-start
invariant-loop-start l = l.uppers.items ≡ l.form.upper ++ map artificial_upper (take l.start-index l.starts)
