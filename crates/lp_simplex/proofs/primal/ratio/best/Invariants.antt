-- The loop over the positions.
use Rattle.std.proofs.Common.{◌≡◌, Some, Ok}
use Rattle.spec_exact.specs.Run.{steps}
use Rattle.spec_exact.specs.Narrow.{number_limit}
use Rattle.spec_simplex.specs.Step.{best_with}
use Rattle.lp_simplex.proofs.primal.ratio.best.Given as goal

-- the best so far
abbrev pub invariant-loop-i : goal.invariant-loop-i
invariant-loop-i l = steps l.i (best_with (Some number_limit) l.tab l.e) l.initial.best ≡ Ok l.best
