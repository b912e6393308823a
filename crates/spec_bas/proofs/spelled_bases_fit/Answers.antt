use Rattle.spec_bas.proofs.FileBasis.{spelled_fits}
use Rattle.spec_bas.proofs.spelled_bases_fit.Goals as goal

pub returns : goal.returns
returns c = λ m f lines basis size w. spelled_fits m f size lines basis w
