-- Part by part.
use Rattle.spec_check.proofs.Fits.{settled_fits}
use Rattle.spec_check.proofs.settled_certificates_fit.Goals as goal

pub returns : goal.returns
returns c = settled_fits
