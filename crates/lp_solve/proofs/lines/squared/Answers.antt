-- The first power, and one more squaring.
use Rattle.lp_solve.proofs.LineLemmas.{first_is, square_is}
use Rattle.lp_solve.proofs.lines.squared.Goals as goal

pub loop-i-init : goal.loop-i-init
loop-i-init c = first_is c.args.word _ _ c.from.ensures c.in_ok-power.ensures

pub loop-i-preserved : goal.loop-i-preserved
loop-i-preserved c =
    square_is c.args.word c.loop-i.i c.loop-i.power _ c.loop-i.invariant c.in_ok-square.ensures
