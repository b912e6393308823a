use Rattle.spec_runs.proofs.Instance.{takes_steps}
use Rattle.spec_runs.proofs.some_steps_are_taken.Goals as goal

pub returns : goal.returns
returns c = takes_steps
