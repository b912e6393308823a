-- The bounds so far.
use Rattle.std.proofs.Common.{◌≡◌, take}
use Rattle.lp_rows.specs.Held.{whole_bounds}
use Rattle.lp_rows.proofs.tableau.widen.bounds.Given as goal

abbrev pub invariant-loop-b : goal.invariant-loop-b
invariant-loop-b g l = whole_bounds g.U.Words.value l.list.items ≡ whole_bounds g.T.Words.value (take l.b-index l.from)
