-- Line by line.
use Rattle.spec_certificate.proofs.Wider.{spelled_wide}
use Rattle.spec_certificate.proofs.narrow_certificates_are_read_the_same.Goals as goal

pub returns : goal.returns
returns c = spelled_wide
