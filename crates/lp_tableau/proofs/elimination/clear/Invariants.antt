-- The loop over the columns.
use Rattle.std.proofs.Common.{drop}
use Rattle.lp_tableau.specs.Grid.{IsGrid}
use Rattle.lp_tableau.proofs.Spots.{IsOnWay}
use Rattle.lp_tableau.proofs.elimination.clear.Given as goal

-- row i is done so far
abbrev pub invariant-loop-spot : goal.invariant-loop-spot
invariant-loop-spot l = record {
  done : IsOnWay l.width l.p l.times l.i (drop l.spot-index l.spots) l.fn.grid l.grid;
  shape : IsGrid l.height l.width l.grid;
}
