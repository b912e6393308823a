use Rattle.spec_truth.proofs.Agreement.{runs_agree}
use Rattle.spec_truth.proofs.runs_of_the_same_asks_agree.Goals as goal

pub returns : goal.returns
returns c = runs_agree
