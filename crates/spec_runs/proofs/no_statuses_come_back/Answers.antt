use Rattle.spec_runs.proofs.NoCycle.{never_in_phase_one, never_in_phase_two}
use Rattle.spec_runs.proofs.no_statuses_come_back.Goals as goal

pub returns : goal.returns
returns c = record { one = never_in_phase_one; two = never_in_phase_two }
