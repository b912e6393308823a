-- The bounds so far.
use Rattle.std.proofs.Common.{◌≡◌, map, take}
use Rattle.lp_rows.specs.Ratio.{bound_of}
use Rattle.lp_rows.proofs.tableau.common.bounds_on.Given as goal

abbrev pub invariant-loop-bound : goal.invariant-loop-bound
invariant-loop-bound g l =
    map (bound_of g.T.Words.value (g.T.Words.value l.denominator)) l.numbers.items ≡ take l.bound-index l.bounds
