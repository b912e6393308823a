use Rattle.std.proofs.Common.{rules}
use Rattle.lp_core.proofs.Opening.{all_below, none_formed, shows_opening}
use Rattle.lp_core.proofs.Following.{follows_first}
use Rattle.lp_core.proofs.world.World.new.Goals as goal

pub invariant_of-result : goal.invariant_of-result
invariant_of-result c = (search rules, search rules, all_below _ _ c.loop.invariant.1, none_formed _ (search rules))

pub returns-clause-opening : goal.returns-clause-opening
returns-clause-opening c = follows_first _ (shows_opening _ _ _ c.loop.invariant.1 (search rules))
