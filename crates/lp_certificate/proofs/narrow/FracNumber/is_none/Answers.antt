use Rattle.spec_exact.specs.Fraction.{0ℚ}
use Rattle.spec_exact.proofs.Same.{same_is}
use Rattle.lp_certificate.proofs.narrow.FracNumber.is_none.Goals as goal

pub returns : goal.returns
returns c = same_is c.args.self.now 0ℚ c.is_zero.result c.is_zero.ensures
