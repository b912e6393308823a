-- By the invariant.
use Rattle.lp_tableau.proofs.BlockRows.{narrow_rows}
use Rattle.lp_tableau.proofs.grid.Grid.narrow.Goals as goal

pub returns : goal.returns
returns c = narrow_rows _ _ _ _ c.self.view_is c.self.invariant.narrow
