-- The loop over the columns.
use Rattle.std.proofs.Common.{◌≡◌}
use Rattle.spec_exact.specs.Run.{made}
use Rattle.lp_tableau.specs.Based.{stand_in}
use Rattle.lp_tableau.proofs.basis.values.Given as goal

-- the columns so far are there
abbrev pub invariant-loop-k : goal.invariant-loop-k
invariant-loop-k l = l.values.items ≡ made l.k (stand_in l.status l.lower l.upper)
