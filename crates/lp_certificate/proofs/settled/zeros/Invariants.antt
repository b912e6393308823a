-- As many as the turns so far.
use Rattle.std.proofs.Common.{◌≡◌, replicate}
use Rattle.lp_certificate.proofs.settled.zeros.Given as goal

-- the list has i zeros
abbrev pub invariant-loop-i : goal.invariant-loop-i
invariant-loop-i g l = l.list ≡ replicate l.i g.N.Number.nothing
