-- The section's card, then those of the columns, or no card where all bounds are the usual ones.
use Rattle.spec_mps.specs.Written.{bounds_cards}
use Rattle.lp_mps.proofs.AddSteps.{section_none, section_some}
use Rattle.lp_mps.proofs.write.line.Writer.bounds.Goals as goal

pub returns-then-not-has_bounds : goal.returns-then-not-has_bounds
unfolding bounds_cards
returns-then-not-has_bounds c = section_none _ c.has_bounds.ensures c.if-not-has_bounds.true

pub returns : goal.returns
unfolding bounds_cards
returns c =
    section_some _ _ _ c.has_bounds.ensures c.if-not-has_bounds.false c.in_ok-section.ensures c.column_bounds.ensures
