use Rattle.spec_world.proofs.Events.{reads_now}
use Rattle.spec_world.proofs.reads_are_answered.Goals as goal

pub returns : goal.returns
returns c = reads_now
