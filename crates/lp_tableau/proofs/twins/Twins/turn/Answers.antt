-- The rows without twins.
use Rattle.std.proofs.Common.{arith}
use Rattle.lp_tableau.proofs.TwinRows.{height_is, width_is, turned_same, grid_after}
use Rattle.lp_tableau.proofs.twins.Twins.turn.Goals as goal

pub turn-requires-clause-place : goal.turn-requires-clause-place
turn-requires-clause-place c =
    omega (arith, height_is _ _ _ _ _ c.self.view_is c.self.invariant _ _ c.requires.shape, c.requires.place)

pub turn-requires-clause-column : goal.turn-requires-clause-column
turn-requires-clause-column c =
    omega (
      arith,
      width_is _ _ _ _ _ c.self.view_is c.self.invariant _ _ c.requires.shape _ c.requires.place,
      c.requires.column,
    )

pub returns : goal.returns
returns c =
    let e = c.self.view_is in
    let v = c.self.invariant in
    let rows = rw c.deref.ensures.value at c.turn.ensures.rows in
    record {
      rows = turned_same _ _ _ _ _ e v _ _ c.requires.shape _ _ _ _ _ c.requires.place rows;
      shape = grid_after _ _ _ _ _ e v _ _ c.requires.shape _ _ c.requires.place c.turn.ensures.shape;
    }
