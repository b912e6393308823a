use Rattle.spec_model.specs.Model.{lower_of}
use Rattle.lp_check.proofs.Gives.{taken_is}
use Rattle.lp_check.proofs.wide.limits.lower_limit.Goals as goal

pub returns : goal.returns
returns c = taken_is _ (lower_of c.args.row.now) c.taken.result c.lower_of.ensures c.taken.ensures
