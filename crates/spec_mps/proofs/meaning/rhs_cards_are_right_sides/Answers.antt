use Rattle.spec_mps.proofs.SidesKept.{right_side_said, offset_said}
use Rattle.spec_mps.proofs.meaning.rhs_cards_are_right_sides.Goals as goal

pub returns-clause-rows : goal.returns-clause-rows
returns-clause-rows c = right_side_said

pub returns-clause-objective : goal.returns-clause-objective
returns-clause-objective c = offset_said
