use Rattle.std.proofs.Common.{arith, ◌∙◌}
use Rattle.spec_exact.specs.GcdLaws.{gcd-swap}
use Rattle.spec_exact.proofs.Coprime.{gcd-sub}
use Rattle.lp_frac.proofs.divisors.long_odd_common.Goals as goal

pub loop-y-preserved-then-z-x : goal.loop-y-preserved-then-z-x
loop-y-preserved-then-z-x c = (
  c.long_odd_part-z.ensures.odd,
  gcd-sub c.loop-y.x c.long_odd_part-z.result (omega arith)
      ∙ c.long_odd_part-z.ensures.common c.loop-y.x c.loop-y.invariant.0 ∙ c.loop-y.invariant.1,
)

pub loop-y-preserved : goal.loop-y-preserved
loop-y-preserved c = (
  c.loop-y.invariant.0,
  gcd-sub c.long_odd_part-z.result c.loop-y.x (omega arith) ∙ gcd-swap c.long_odd_part-z.result c.loop-y.x
      ∙ c.long_odd_part-z.ensures.common c.loop-y.x c.loop-y.invariant.0 ∙ c.loop-y.invariant.1,
)

pub returns : goal.returns
returns c = c.half_common-2.ensures ∙ c.loop-y.invariant.1

pub returns-then-x-le-SHORT : goal.returns-then-x-le-SHORT
returns-then-x-le-SHORT c = c.half_common.ensures ∙ gcd-swap c.loop-y.y c.loop-y.x ∙ c.loop-y.invariant.1
