use Rattle.spec_server.proofs.Truth.{answered_is_true}
use Rattle.spec_server.proofs.answers_are_true.Goals as goal

pub returns : goal.returns
returns c = answered_is_true
