-- The loop over the positions.
use Rattle.std.proofs.Common.{◌≡◌}
use Rattle.spec_runs.specs.Cold.{moves_below}
use Rattle.lp_solve.proofs.certificate.move_of.Given as goal

-- by the last position so far
abbrev pub invariant-loop-i : goal.invariant-loop-i
invariant-loop-i l = l.moved ≡ moves_below l.tab l.j l.way l.k l.i
