use Rattle.spec_exact.proofs.RunsInOrder.{steps_stop}
use Rattle.lp_check.proofs.Gives.{missing}
use Rattle.lp_check.proofs.wide.farkas.columns_give.Goals as goal

pub returns-in-None : goal.returns-in-None
returns-in-None c =
    rw (← c.cols-j-end.ensures.value)
    (steps_stop _ _ _ _ _ _ c.loop-j-test.true c.loop-j.invariant
    (missing 2 _ _ c.in_ok-next.ensures c.in-None.is))
