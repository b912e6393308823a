-- Line by line, and part by part.
use Rattle.spec_certificate.proofs.ReadBack.{read_back}
use Rattle.spec_certificate.proofs.written_certificates_are_read.Goals as goal

pub returns : goal.returns
returns c = read_back
