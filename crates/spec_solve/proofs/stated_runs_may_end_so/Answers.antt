use Rattle.spec_solve.proofs.Orders.{part_may}
use Rattle.spec_solve.proofs.stated_runs_may_end_so.Goals as goal

pub returns : goal.returns
returns c = part_may
