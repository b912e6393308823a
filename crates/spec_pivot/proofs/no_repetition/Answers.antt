use Rattle.spec_pivot.proofs.Cycle.{no_cycle}
use Rattle.spec_pivot.proofs.no_repetition.Goals as goal

pub returns : goal.returns
returns c = no_cycle
