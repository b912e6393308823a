-- The place in the block.
use Rattle.std.proofs.Common.{◌<◌, length, get_or, subst, ap, ◌∙◌}
use Rattle.std.proofs.lemmas.List.{get_or_default}
use Rattle.spec_exact.specs.Fraction.{0ℚ}
use Rattle.lp_tableau.proofs.BlockRows.{row_in, column_in, at_is}
use Rattle.lp_tableau.proofs.grid.Grid.at.Goals as goal

pub spot-requires-clause-row : goal.spot-requires-clause-row
spot-requires-clause-row c = row_in _ _ _ _ _ c.self.view_is c.requires.row

pub spot-requires-clause-column : goal.spot-requires-clause-column
spot-requires-clause-column c =
    column_in _ _ _ _ _ _ c.self.view_is c.self.invariant.block c.requires.row c.requires.column

pub returns : goal.returns
returns c =
    c.index.ensures
    ∙ get_or_default _ _ _ 0ℚ
    (subst (λ xs. c.spot.result < length xs) c.deref.ensures.value c.spot.ensures.inside)
    ∙ ap (λ j. get_or c.self.inside.block.items j 0ℚ) c.spot.ensures.place
    ∙ at_is _ _ _ _ _ _ c.self.view_is c.self.invariant.block c.requires.row c.requires.column
