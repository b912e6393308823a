use Rattle.spec_text_truth.proofs.ToldRuns.{replies_true}
use Rattle.spec_text_truth.proofs.outputs_of_sessions_are_true.Goals as goal

pub returns : goal.returns
returns c = replies_true
