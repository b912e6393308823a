use Rattle.std.proofs.Common.{◌+◌, ◌-◌, ◌%◌, refl, ap, ◌∙◌, arith}
use Rattle.spec_mps.specs.NumberWritten.{places}
use Rattle.lp_numtext.proofs.WriteSteps.{place_passed}
use Rattle.lp_numtext.proofs.writing.places.Goals as goal

pub loop-d-init : goal.loop-d-init
unfolding places
loop-d-init c = refl

pub loop-d-preserved : goal.loop-d-preserved
loop-d-preserved c =
    place_passed (19 - c.loop-d.d) (19 - (c.loop-d.d + 1)) c.loop-d.d c.args.den
    (omega arith) (λ e. c.if-pow-den-eq0.false (ap (λ n. n % c.args.den) c.pow.ensures ∙ e))
    ∙ c.loop-d.invariant
