-- Each call is for one step less.
use Rattle.std.proofs.Common.{length}
use Rattle.lp_presolve.proofs.carrying.+carry.Given as goal

abbrev pub decreases-carry : goal.decreases-carry
decreases-carry l = length l.steps.now
