use Rattle.spec_server.proofs.Truth.{accepted_is_true}
use Rattle.spec_server.proofs.accepted_certificates_are_true.Goals as goal

pub returns : goal.returns
returns c = accepted_is_true
