use Rattle.spec_bas.proofs.FileBasis.{judged, one_basis, not_both}
use Rattle.spec_bas.proofs.files_are_judged.Goals as goal

pub returns-clause-some : goal.returns-clause-some
returns-clause-some c = λ m f lines size. judged m f size lines

pub returns-clause-one : goal.returns-clause-one
returns-clause-one c = λ m f lines basis other size v w. one_basis m f size lines basis other v w

pub returns-clause-not_both : goal.returns-clause-not_both
returns-clause-not_both c = λ m f lines basis n code size v w. not_both m f size lines basis n code v w
