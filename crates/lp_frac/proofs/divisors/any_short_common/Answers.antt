use Rattle.std.proofs.Common.{sym, ap, ◌∙◌}
use Rattle.spec_exact.specs.Gcd.{gcd}
use Rattle.spec_exact.specs.GcdLaws.{gcd-swap}
use Rattle.spec_exact.specs.Quotients.{one_lowest}
use Rattle.lp_frac.proofs.divisors.any_short_common.Goals as goal

pub returns-then-a-eq1 : goal.returns-then-a-eq1
returns-then-a-eq1 c = sym (ap (λ n. gcd n c.args.b) c.if-a-eq1.true ∙ gcd-swap 1 c.args.b ∙ one_lowest c.args.b)

pub returns-then-b-eq1 : goal.returns-then-b-eq1
returns-then-b-eq1 c = sym (ap (gcd c.args.a) c.if-b-eq1.true ∙ one_lowest c.args.a)
