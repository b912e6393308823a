use Rattle.lp_check.proofs.Gives.{stands_is}
use Rattle.lp_check.proofs.wide.steps.stands_at.Goals as goal

pub returns-in_ok-order-in-Some : goal.returns-in_ok-order-in-Some
returns-in_ok-order-in-Some c =
    stands_is c.args.limit c.in-Some.k c.args.v.now _ _ c.in-Some.is c.in_ok-order-in-Some.ensures c.is_eq.ensures
