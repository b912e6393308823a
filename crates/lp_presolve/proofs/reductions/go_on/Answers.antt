-- The column that has new bounds is one of the smaller model's.
use Rattle.lp_presolve.proofs.Reached.{has_column}
use Rattle.lp_presolve.proofs.reductions.go_on.Goals as goal

pub step_of-requires : goal.step_of-requires
step_of-requires c = has_column c.args.model.now c.shrink.new.model c.args.reduction c.requires.chosen c.in_ok-shrink.ensures.ok
