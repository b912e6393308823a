use Rattle.spec_runs.proofs.ColdSolves.{end_accepted, clash_accepted}
use Rattle.spec_runs.proofs.ends_are_accepted.Goals as goal

pub returns : goal.returns
returns c = record { phases = end_accepted; clash = clash_accepted }
