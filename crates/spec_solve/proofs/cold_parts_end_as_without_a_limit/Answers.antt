use Rattle.spec_solve.proofs.Orders.{part_same}
use Rattle.spec_solve.proofs.cold_parts_end_as_without_a_limit.Goals as goal

pub returns : goal.returns
returns c = part_same
