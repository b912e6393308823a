use Rattle.spec_exact.proofs.RunsInOrder.{steps_stop}
use Rattle.lp_check.proofs.Gives.{missing}
use Rattle.lp_check.proofs.wide.farkas.rows_ask.Goals as goal

pub returns-in-None : goal.returns-in-None
returns-in-None c =
    rw (← c.rows-i-end.ensures.value)
    (steps_stop _ _ _ _ _ _ c.loop-i-test.true c.loop-i.invariant
    (missing 1 _ _ c.in_ok-next.ensures c.in-None.is))
