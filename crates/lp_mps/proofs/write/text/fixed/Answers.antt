-- The text of all cards.
use Rattle.lp_mps.proofs.AddSteps.{fixed_given}
use Rattle.lp_mps.proofs.write.text.fixed.Goals as goal

pub returns : goal.returns
returns c = fixed_given c.args.model.now c.text_of.result c.text_of.ensures
