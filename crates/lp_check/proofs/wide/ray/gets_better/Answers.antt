use Rattle.lp_check.proofs.Gives.{better_above}
use Rattle.lp_check.proofs.wide.ray.gets_better.Goals as goal

pub returns-in-Max : goal.returns-in-Max
returns-in-Max c = rw c.in-Max.is (better_above c.args.cost.now _ c.is_positive.ensures)
