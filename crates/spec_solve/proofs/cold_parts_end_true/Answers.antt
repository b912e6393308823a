use Rattle.spec_solve.proofs.Orders.{part_true}
use Rattle.spec_solve.proofs.cold_parts_end_true.Goals as goal

pub returns : goal.returns
returns c = part_true
