use Rattle.spec_mps.proofs.BoundsSaid.{bounds_said}
use Rattle.spec_mps.proofs.meaning.bounds_cards_are_bounds.Goals as goal

pub returns : goal.returns
returns c = bounds_said
