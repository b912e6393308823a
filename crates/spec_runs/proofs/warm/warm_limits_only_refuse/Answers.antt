use Rattle.spec_runs.proofs.LimitWarm.{warm_same, never_past}
use Rattle.spec_runs.proofs.warm.warm_limits_only_refuse.Goals as goal

pub returns : goal.returns
returns c = record { same = warm_same; exact = never_past }
