use Rattle.std.proofs.Common.{refl}
use Rattle.spec_model.specs.Model.{part}
use Rattle.spec_iis.specs.Rule.{row_sides}
use Rattle.lp_iis.proofs.OneMore.{gathered_more}
use Rattle.lp_iis.proofs.certificate.push_rows.Goals as goal

pub loop-i-preserved : goal.loop-i-preserved
unfolding row_sides
loop-i-preserved c =
    gathered_more (λ i. row_sides i (part c.args.y.now i)) c.loop-i.i c.args.to.now c.loop-i.to _ _ c.loop-i.invariant
    c.in_ok-push_sides.ensures
    (rw (c.is_positive.ensures, c.is_negative.ensures, c.part-multiplier.ensures) refl)
