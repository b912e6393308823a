use Rattle.spec_factor.proofs.OverCold.{over_same}
use Rattle.spec_factor.proofs.revised.factors_solve_as_without_a_limit.Goals as goal

pub returns : goal.returns
returns c = over_same
