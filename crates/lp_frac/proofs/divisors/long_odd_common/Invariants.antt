use Rattle.std.proofs.Common.{◌≡◌, ◌+◌, ◌%◌}
use Rattle.spec_exact.specs.Gcd.{gcd}
use Rattle.lp_frac.proofs.divisors.long_odd_common.Given as goal

abbrev pub invariant-loop-y : goal.invariant-loop-y
invariant-loop-y l = (l.x % 2 ≡ 1) × (gcd l.x l.y ≡ gcd l.fn.a l.fn.b)

abbrev pub decreases-loop-y : goal.decreases-loop-y
decreases-loop-y l = l.x + l.y
