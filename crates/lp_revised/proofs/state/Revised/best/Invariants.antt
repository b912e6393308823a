-- The loop over the positions.
use Rattle.std.proofs.Common.{◌≡◌, Some, Ok}
use Rattle.spec_exact.specs.Run.{steps}
use Rattle.spec_exact.specs.Narrow.{number_limit}
use Rattle.spec_simplex.specs.Step.{best_with}
use Rattle.spec_factor.specs.Revised.{seen}
use Rattle.lp_revised.proofs.state.Revised.best.Given as goal

-- the best so far
abbrev pub invariant-loop-i : goal.invariant-loop-i
invariant-loop-i l =
    steps l.i (best_with (Some number_limit) (seen l.starts l.self.bare l.e.col l.solved) l.e) l.initial.best ≡ Ok
    l.best
