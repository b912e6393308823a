use Rattle.spec_runs.proofs.TrueEnds.{ended_is_true, stopped_is_stopped}
use Rattle.spec_runs.proofs.warm.warm_ends_true.Goals as goal

pub returns : goal.returns
returns c = record { ended = ended_is_true; stopped = stopped_is_stopped }
