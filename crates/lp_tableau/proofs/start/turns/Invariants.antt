-- The loop over the rows.
use Rattle.std.proofs.Common.{◌≡◌, map, take}
use Rattle.lp_tableau.specs.Begun.{is_below}
use Rattle.lp_tableau.proofs.start.turns.Given as goal

-- the rows so far are there
abbrev pub invariant-loop-start : goal.invariant-loop-start
invariant-loop-start l = l.list.items ≡ map is_below (take l.start-index l.starts)
