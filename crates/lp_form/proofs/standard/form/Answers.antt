-- A usual model has a usual form.
use Rattle.lp_form.proofs.MadeForms.{usual_form}
use Rattle.lp_form.proofs.standard.form.Goals as goal

pub new-requires : goal.new-requires
new-requires c =
    usual_form c.args.model.now _ c.requires c.in_ok-form.ensures.ok c.in_ok-form.ensures.kept
