-- The loop over the positions.
use Rattle.std.proofs.Common.{◌≡◌}
use Rattle.spec_simplex.specs.Dual.{place_below}
use Rattle.lp_simplex.proofs.dual.choice.position_of.Given as goal

-- the last so far
abbrev pub invariant-loop-i : goal.invariant-loop-i
invariant-loop-i l = l.position ≡ place_below l.tab l.k l.i
