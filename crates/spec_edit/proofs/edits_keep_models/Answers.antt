use Rattle.spec_model.proofs.KeptModels.{usual_from_within, within_from_usual}
use Rattle.spec_edit.proofs.EditsKeep.{edited-kept}
use Rattle.spec_edit.proofs.edits_keep_models.Goals as goal

pub returns : goal.returns
returns c m n e k may h = usual_from_within n (edited-kept m n e (within_from_usual m k) may h)
