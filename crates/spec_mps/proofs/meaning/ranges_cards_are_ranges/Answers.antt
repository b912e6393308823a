use Rattle.spec_mps.proofs.RangesKept.{range_by_kind, no_range_said}
use Rattle.spec_mps.proofs.meaning.ranges_cards_are_ranges.Goals as goal

pub returns-clause-rows : goal.returns-clause-rows
returns-clause-rows c = range_by_kind

pub returns-clause-objective : goal.returns-clause-objective
returns-clause-objective c = no_range_said
