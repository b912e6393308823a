use Rattle.spec_truth.proofs.HeldThen.{holds_then}
use Rattle.spec_truth.proofs.sessions_hold_the_model_then.Goals as goal

pub returns : goal.returns
returns c = holds_then
