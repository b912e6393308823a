use Rattle.spec_runs.proofs.ColdSolves.{enough}
use Rattle.spec_runs.proofs.a_stated_budget_is_enough.Goals as goal

pub returns : goal.returns
returns c = enough
