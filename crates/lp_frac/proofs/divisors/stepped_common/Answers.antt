use Rattle.std.proofs.Common.{sym, ap, ◌∙◌}
use Rattle.spec_exact.specs.Gcd.{gcd}
use Rattle.spec_exact.specs.GcdLaws.{gcd-step, gcd-swap, gcd-zero}
use Rattle.lp_frac.proofs.divisors.stepped_common.Goals as goal

pub returns-then-b-eq0 : goal.returns-then-b-eq0
returns-then-b-eq0 c = sym (ap (gcd c.args.a) c.if-b-eq0.true ∙ gcd-zero c.args.a)

pub returns-then-rest-eq0 : goal.returns-then-rest-eq0
returns-then-rest-eq0 c =
    sym (gcd-zero c.args.b) ∙ ap (gcd c.args.b) (sym c.if-rest-eq0.true) ∙ gcd-step c.args.a c.args.b

pub returns : goal.returns
returns c = c.twos_common-2.ensures ∙ gcd-step c.args.a c.args.b

pub returns-then-b-a : goal.returns-then-b-a
returns-then-b-a c = c.twos_common.ensures ∙ gcd-swap c.args.b c.args.a
