-- One bound more, and all of them.
use Rattle.std.proofs.Common.{◌∙◌}
use Rattle.std.proofs.lemmas.List.{take_all}
use Rattle.lp_rows.specs.Ratio.{bound_of}
use Rattle.lp_rows.proofs.GrowingRows.{taken_more}
use Rattle.lp_rows.proofs.tableau.common.bounds_on.Goals as goal

pub loop-bound-preserved : goal.loop-bound-preserved
loop-bound-preserved g c =
    taken_more (bound_of g.T.Words.value (g.T.Words.value c.args.denominator)) c.loop-bound.numbers.items _
    c.args.bounds.now c.loop-bound.bound-index c.in-Ok.number c.bound-item.result c.loop-bound.invariant
    c.in_ok-push-in-Ok.ensures.items c.loop-bound-test.true c.bound-item.is c.in-Ok.ensures

pub returns : goal.returns
returns g c =
    c.loop-bound.invariant ∙ take_all c.loop-bound.bound-index c.args.bounds.now c.loop-bound-test.false
