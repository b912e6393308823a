use Rattle.spec_certificate.proofs.ReadBack.{wide_read_back}
use Rattle.spec_certificate.proofs.written_wide_certificates_are_read.Goals as goal

pub returns : goal.returns
returns c = wide_read_back
