-- The section's card, then those of the columns.
use Rattle.std.proofs.Common.{[], ◌∷◌}
use Rattle.std.specs.Prelude.{codes}
use Rattle.std.specs.List.{flat_map}
use Rattle.spec_mps.specs.Written.{columns_cards, column_cards, section_card}
use Rattle.lp_mps.proofs.AddSteps.{goes_on}
use Rattle.lp_mps.proofs.write.line.Writer.columns.Goals as goal

pub returns : goal.returns
unfolding columns_cards
returns c =
    goes_on c.args.self.now.style (section_card (codes "COLUMNS") ∷ [])
    (flat_map (column_cards c.args.model.now) c.args.model.now.columns) _ _
    _ c.column_cards.result c.in_ok-section.ensures c.column_cards.ensures
