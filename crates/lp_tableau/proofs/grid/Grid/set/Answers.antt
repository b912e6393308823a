-- The place in the block.
use Rattle.lp_tableau.proofs.BlockRows.{row_in, column_in, set_is}
use Rattle.lp_tableau.proofs.grid.Grid.set.Goals as goal

pub spot-place-requires-clause-row : goal.spot-place-requires-clause-row
spot-place-requires-clause-row c = row_in _ _ _ _ _ c.self.view_is c.requires.row

pub spot-place-requires-clause-column : goal.spot-place-requires-clause-column
spot-place-requires-clause-column c =
    column_in _ _ _ _ _ _ c.self.view_is c.self.invariant.block c.requires.row c.requires.column

pub returns : goal.returns
returns c =
    rw c.spot-place.ensures.place
    (set_is _ _ _ _ _ _ c.self.view_is c.self.invariant.block c.requires.row c.requires.column c.args.value)
