use Rattle.spec_truth.proofs.WideReplies.{same_wide}
use Rattle.spec_truth.proofs.wide_answers_to_the_same_asks_are_the_same.Goals as goal

pub returns : goal.returns
returns c = same_wide
