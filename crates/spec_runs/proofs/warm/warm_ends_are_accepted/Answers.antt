use Rattle.spec_runs.proofs.TrueEnds.{run_accepted}
use Rattle.spec_runs.proofs.warm.warm_ends_are_accepted.Goals as goal

pub returns : goal.returns
returns c = run_accepted
