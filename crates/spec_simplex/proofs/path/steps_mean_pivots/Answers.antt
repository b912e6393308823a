use Rattle.spec_simplex.proofs.LeastIndexSteps.{choice_is_meant}
use Rattle.spec_simplex.proofs.path.steps_mean_pivots.Goals as goal

pub returns : goal.returns
returns c = choice_is_meant
