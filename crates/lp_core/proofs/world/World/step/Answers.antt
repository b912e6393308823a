use Rattle.lp_core.proofs.Following.{follows_on}
use Rattle.lp_core.proofs.world.World.step.Goals as goal

pub returns-clause-follows : goal.returns-clause-follows
returns-clause-follows c = follows_on _ _ _ _ c.act.ensures.fits c.act.ensures.size
