use Rattle.lp_check.proofs.Gives.{crossed_is}
use Rattle.lp_check.proofs.wide.farkas.is_crossed.Goals as goal

pub returns : goal.returns
returns c = crossed_is c.args.lower c.args.upper _ _ _ _ c.in-Some.is c.in-Some-upper.is c.in_ok-order-in-Some-upper.ensures c.is_gt.ensures
