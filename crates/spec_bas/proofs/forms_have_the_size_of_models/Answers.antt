use Rattle.spec_bas.proofs.FormSizes.{sized}
use Rattle.spec_bas.proofs.forms_have_the_size_of_models.Goals as goal

pub returns : goal.returns
returns c = sized
