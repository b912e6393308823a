-- The loop over the columns.
use Rattle.std.proofs.Common.{◌≡◌, Some, Ok}
use Rattle.spec_exact.specs.Run.{steps}
use Rattle.spec_exact.specs.Narrow.{number_limit}
use Rattle.spec_range.specs.Rule.{no_ends, carried_if}
use Rattle.lp_range.proofs.carried.nonbasic.Given as goal

-- the ends are those that the first k columns give for the right side
abbrev pub invariant-loop-k : goal.invariant-loop-k
invariant-loop-k l = steps l.k (carried_if (Some number_limit) l.rhs l.tab l.s) no_ends ≡ Ok l.ends
