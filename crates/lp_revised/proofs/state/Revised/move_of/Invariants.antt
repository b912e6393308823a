-- The loop over the positions.
use Rattle.std.proofs.Common.{◌≡◌}
use Rattle.spec_runs.specs.Cold.{moves_below}
use Rattle.spec_factor.specs.Revised.{seen}
use Rattle.lp_revised.proofs.state.Revised.move_of.Given as goal

-- by the last position so far
abbrev pub invariant-loop-i : goal.invariant-loop-i
invariant-loop-i l =
    l.moved ≡ moves_below (seen l.starts l.self.bare l.column.number l.column.solved) l.column.number l.way l.k l.i
