use Rattle.std.proofs.Common.{sym, ap, ◌∙◌}
use Rattle.spec_exact.specs.Gcd.{gcd}
use Rattle.spec_exact.specs.GcdLaws.{gcd-step, gcd-zero}
use Rattle.lp_frac.proofs.divisors.half_common.Goals as goal

pub returns-then-b-eq0 : goal.returns-then-b-eq0
returns-then-b-eq0 c = sym (ap (gcd c.args.a) c.if-b-eq0.true ∙ gcd-zero c.args.a)

pub returns-then-a-gt-SHORT : goal.returns-then-a-gt-SHORT
returns-then-a-gt-SHORT c = c.short_common.ensures ∙ gcd-step c.args.a c.args.b
