-- The loop over the columns.
use Rattle.std.proofs.Common.{◌≡◌, Some, Ok}
use Rattle.spec_exact.specs.Run.{steps}
use Rattle.spec_exact.specs.Narrow.{number_limit}
use Rattle.spec_range.specs.Rule.{no_ends, moved_if}
use Rattle.lp_range.proofs.moved.basic.Given as goal

-- the ends are those that the first k columns give for the cost of the basic column at position p
abbrev pub invariant-loop-k : goal.invariant-loop-k
invariant-loop-k l = steps l.k (moved_if (Some number_limit) l.sense l.cost l.tab l.p) no_ends ≡ Ok l.ends
