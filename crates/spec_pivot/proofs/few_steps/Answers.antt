use Rattle.spec_pivot.proofs.Count.{bounded}
use Rattle.spec_pivot.proofs.few_steps.Goals as goal

pub returns : goal.returns
returns c = bounded
