use Rattle.spec_mps.proofs.OneMeaning.{spelled_means, one_meaning}
use Rattle.spec_mps.proofs.meaning.texts_have_one_meaning.Goals as goal

pub returns-clause-meant : goal.returns-clause-meant
returns-clause-meant c = spelled_means

pub returns-clause-one : goal.returns-clause-one
returns-clause-one c = one_meaning
