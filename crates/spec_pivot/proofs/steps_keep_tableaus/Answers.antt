use Rattle.spec_pivot.proofs.Cycle.{step_kept}
use Rattle.spec_pivot.proofs.steps_keep_tableaus.Goals as goal

pub returns : goal.returns
returns c = step_kept
