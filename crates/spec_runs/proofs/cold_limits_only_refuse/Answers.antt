use Rattle.spec_runs.proofs.LimitCold.{cold_same, never_past}
use Rattle.spec_runs.proofs.cold_limits_only_refuse.Goals as goal

pub returns : goal.returns
returns c = record { same = cold_same; exact = never_past }
