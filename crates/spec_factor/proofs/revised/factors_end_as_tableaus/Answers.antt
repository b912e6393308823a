use Rattle.spec_factor.proofs.OverCold.{run_is}
use Rattle.spec_factor.proofs.OverLimits.{over_agrees}
use Rattle.spec_factor.proofs.revised.factors_end_as_tableaus.Goals as goal

pub returns : goal.returns
returns c = record { ends = run_is; limits = λ limit budget f. (over_agrees limit budget f).same }
