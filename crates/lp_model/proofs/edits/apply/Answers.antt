use Rattle.lp_model.proofs.UsualEdits.{still_usual}
use Rattle.lp_model.proofs.edits.apply.Goals as goal

pub invariant_of-model : goal.invariant_of-model
invariant_of-model c =
    still_usual c.model.inside.model c.change.new.model c.args.edit c.change.result c.model.invariant c.change.ensures
