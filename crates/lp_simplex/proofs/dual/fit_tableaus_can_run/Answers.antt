use Rattle.lp_simplex.proofs.DualFeasibleRuns.{can_start}
use Rattle.lp_simplex.proofs.dual.fit_tableaus_can_run.Goals as goal

pub returns : goal.returns
returns c = can_start
