use Rattle.spec_truth.proofs.TrueRuns.{accepted_holds}
use Rattle.spec_truth.proofs.yes_is_true_of_the_model_then.Goals as goal

pub returns : goal.returns
returns c = accepted_holds
