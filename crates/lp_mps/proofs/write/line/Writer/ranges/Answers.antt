-- The section's card, then those of the rows with a range, or no card where no row has one.
use Rattle.spec_mps.specs.Written.{ranges_cards}
use Rattle.lp_mps.proofs.AddSteps.{section_none, section_some}
use Rattle.lp_mps.proofs.write.line.Writer.ranges.Goals as goal

pub returns-then-not-has_ranges : goal.returns-then-not-has_ranges
unfolding ranges_cards
returns-then-not-has_ranges c = section_none _ c.has_ranges.ensures c.if-not-has_ranges.true

pub returns : goal.returns
unfolding ranges_cards
returns c =
    section_some _ _ _ c.has_ranges.ensures c.if-not-has_ranges.false c.in_ok-section.ensures c.row_numbers.ensures
