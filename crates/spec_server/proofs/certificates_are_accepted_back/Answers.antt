use Rattle.spec_server.proofs.HandedBack.{accepted_back}
use Rattle.spec_server.proofs.certificates_are_accepted_back.Goals as goal

pub returns : goal.returns
returns c = accepted_back
