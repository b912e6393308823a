-- The text of all cards.
use Rattle.spec_mps.specs.Written.{free}
use Rattle.lp_mps.proofs.write.text.free.Goals as goal

pub returns-in-Ok : goal.returns-in-Ok
unfolding free
returns-in-Ok c = c.in-Ok.ensures.1
