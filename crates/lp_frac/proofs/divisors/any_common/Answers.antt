use Rattle.std.proofs.Common.{◌∙◌}
use Rattle.spec_exact.specs.GcdLaws.{gcd-swap}
use Rattle.lp_frac.proofs.divisors.any_common.Goals as goal

pub returns-then-a-le-SHORT-2 : goal.returns-then-a-le-SHORT-2
returns-then-a-le-SHORT-2 c = c.half_common-then-a-le-SHORT-2.ensures ∙ gcd-swap c.args.b c.args.a
