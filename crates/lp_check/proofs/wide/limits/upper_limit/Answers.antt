use Rattle.spec_model.specs.Model.{upper_of}
use Rattle.lp_check.proofs.Gives.{taken_is}
use Rattle.lp_check.proofs.wide.limits.upper_limit.Goals as goal

pub returns : goal.returns
returns c = taken_is _ (upper_of c.args.row.now) c.taken.result c.upper_of.ensures c.taken.ensures
