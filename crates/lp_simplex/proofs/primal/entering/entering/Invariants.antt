-- The loop over the columns.
use Rattle.std.proofs.Common.{◌≡◌, None}
use Rattle.spec_simplex.specs.Step.{entering_below}
use Rattle.lp_simplex.proofs.primal.entering.entering.Given as goal

-- no column so far may enter
abbrev pub invariant-loop-col : goal.invariant-loop-col
invariant-loop-col l = entering_below l.tab l.col ≡ None
