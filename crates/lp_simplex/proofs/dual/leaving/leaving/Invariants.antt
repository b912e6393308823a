-- The loop over the columns.
use Rattle.std.proofs.Common.{◌≡◌, Some, None, Ok}
use Rattle.spec_exact.specs.Run.{steps}
use Rattle.spec_exact.specs.Narrow.{number_limit}
use Rattle.spec_simplex.specs.Fit.{leaving_with}
use Rattle.lp_simplex.proofs.dual.leaving.leaving.Given as goal

-- the first so far
abbrev pub invariant-loop-col : goal.invariant-loop-col
invariant-loop-col l = steps l.col (leaving_with (Some number_limit) l.tab) None ≡ Ok l.first
