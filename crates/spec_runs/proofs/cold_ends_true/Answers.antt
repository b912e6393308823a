use Rattle.spec_runs.proofs.ColdSolves.{ended_is_true, spent_is_spent}
use Rattle.spec_runs.proofs.cold_ends_true.Goals as goal

pub returns : goal.returns
returns c = record { ended = ended_is_true; spent = spent_is_spent }
