use Rattle.std.proofs.Common.{◌<◌, ◌≤◌, sym, subst}
use Rattle.std.proofs.Math.Nat.{le_of_dvd}
use Rattle.spec_exact.specs.GcdLaws.{gcd_is}
use Rattle.spec_exact.specs.Quotients.{gcd_positive}
use Rattle.lp_frac.proofs.divisors.common.Goals as goal

pub returns-clause-positive : goal.returns-clause-positive
returns-clause-positive c = λ p. subst (λ n. 0 < n) (sym c.any_common.ensures) (gcd_positive c.args.a c.args.b p)

pub returns-clause-small : goal.returns-clause-small
returns-clause-small c =
    λ p. subst (λ n. n ≤ c.args.b) (sym c.any_common.ensures) (le_of_dvd p (gcd_is c.args.a c.args.b).1)
