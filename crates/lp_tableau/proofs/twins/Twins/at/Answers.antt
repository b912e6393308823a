-- A place of the rows with twins.
use Rattle.lp_tableau.proofs.TwinRows.{row_in, column_in}
use Rattle.lp_tableau.proofs.twins.Twins.at.Goals as goal

pub item-requires-clause-row : goal.item-requires-clause-row
item-requires-clause-row c = row_in _ _ _ _ _ c.self.view_is c.self.invariant _ c.requires.row

pub item-requires-clause-column : goal.item-requires-clause-column
item-requires-clause-column c = column_in _ _ _ _ _ c.self.view_is c.self.invariant _ c.requires.row _ c.requires.column
