use Rattle.spec_runs.proofs.LimitCold.{answers}
use Rattle.spec_runs.proofs.every_model_is_decided.Goals as goal

pub returns : goal.returns
returns c = answers
