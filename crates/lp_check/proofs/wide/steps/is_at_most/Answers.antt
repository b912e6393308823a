use Rattle.lp_check.proofs.Gives.{most_is}
use Rattle.lp_check.proofs.wide.steps.is_at_most.Goals as goal

pub returns-in_ok-order-in-Some : goal.returns-in_ok-order-in-Some
returns-in_ok-order-in-Some c =
    most_is c.args.limit c.in-Some.k c.args.v.now _ _ c.in-Some.is c.in_ok-order-in-Some.ensures c.is_gt.ensures
