use Rattle.spec_iis.specs.Only.{only}
use Rattle.spec_model.proofs.KeptModels.{usual_from_within, within_from_usual}
use Rattle.spec_iis.proofs.Keeping.{only_kept}
use Rattle.spec_iis.proofs.sides_alone_may_be_kept.Goals as goal

pub returns : goal.returns
returns c = λ m sides k narrow. usual_from_within (only m sides) (only_kept m sides (within_from_usual m k) narrow)
