-- 1 has no divisor but itself.
use Rattle.spec_exact.specs.Quotients.{one_lowest}
use Rattle.lp_frac.proofs.lowest.of_whole.Goals as goal

pub make-requires-clause-lowest : goal.make-requires-clause-lowest
make-requires-clause-lowest c = one_lowest _
