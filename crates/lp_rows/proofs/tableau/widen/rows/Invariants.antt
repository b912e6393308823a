-- The rows so far.
use Rattle.std.proofs.Common.{◌≡◌, map, take}
use Rattle.lp_rows.specs.Held.{whole_row}
use Rattle.lp_rows.proofs.tableau.widen.rows.Given as goal

abbrev pub invariant-loop-r : goal.invariant-loop-r
invariant-loop-r g l =
    map (whole_row g.U.Words.value) l.list.items ≡ map (whole_row g.T.Words.value) (take l.r-index l.from)
