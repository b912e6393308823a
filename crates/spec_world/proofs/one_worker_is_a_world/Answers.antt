use Rattle.spec_world.proofs.OneWorker.{one_together}
use Rattle.spec_world.proofs.FromTogether.{together_one}
use Rattle.spec_world.proofs.one_worker_is_a_world.Goals as goal

pub returns : goal.returns
returns c = record { worlds = one_together; fits = together_one }
