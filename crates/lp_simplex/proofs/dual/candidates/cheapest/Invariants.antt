-- The loop over the columns.
use Rattle.std.proofs.Common.{◌≡◌, Some, None, Ok}
use Rattle.spec_exact.specs.Run.{steps}
use Rattle.spec_exact.specs.Narrow.{number_limit}
use Rattle.spec_simplex.specs.Dual.{cheapest_with}
use Rattle.lp_simplex.proofs.dual.candidates.cheapest.Given as goal

-- the best so far
abbrev pub invariant-loop-k : goal.invariant-loop-k
invariant-loop-k l = steps l.k (cheapest_with (Some number_limit) l.tab l.out.position l.out.direction) None ≡ Ok l.best
