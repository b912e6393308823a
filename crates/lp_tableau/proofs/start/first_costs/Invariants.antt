-- The loop over the rows.
use Rattle.std.proofs.Common.{◌≡◌, ◌+◌, ◌++◌, map, take, replicate}
use Rattle.spec_exact.specs.Fraction.{0ℚ}
use Rattle.spec_simplex.specs.Start.{first_cost}
use Rattle.lp_tableau.proofs.start.first_costs.Given as goal

-- the artificials so far are there
abbrev pub invariant-loop-start : goal.invariant-loop-start
invariant-loop-start l =
    l.costs.items ≡ replicate (l.form.cols + l.form.rows) 0ℚ ++ map first_cost (take l.start-index l.starts)
