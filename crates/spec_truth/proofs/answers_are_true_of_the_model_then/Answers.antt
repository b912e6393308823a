use Rattle.spec_truth.proofs.TrueRuns.{answered_holds}
use Rattle.spec_truth.proofs.answers_are_true_of_the_model_then.Goals as goal

pub returns : goal.returns
returns c = answered_holds
