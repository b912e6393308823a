use Rattle.spec_runs.proofs.TrueEnds.{run_left, phases_left}
use Rattle.spec_runs.proofs.warm.ends_leave_bases.Goals as goal

pub returns : goal.returns
returns c = record { warm = run_left; cold = phases_left }
