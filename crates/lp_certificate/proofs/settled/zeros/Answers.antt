-- One more.
use Rattle.lp_certificate.proofs.Blanks.{one_longer}
use Rattle.lp_certificate.proofs.settled.zeros.Goals as goal

pub loop-i-preserved : goal.loop-i-preserved
loop-i-preserved g c =
    one_longer g.N.Number.nothing c.loop-i.i c.loop-i.list _ _ c.loop-i.invariant c.in_ok-zero.ensures c.in_ok-push.ensures.ok
