-- The loop over the columns.
use Rattle.std.proofs.Common.{◌≡◌}
use Rattle.spec_exact.specs.Run.{made}
use Rattle.spec_runs.specs.Cold.{basis_status}
use Rattle.lp_solve.proofs.basis.statuses.Given as goal

-- the statuses so far are there
abbrev pub invariant-loop-k : goal.invariant-loop-k
invariant-loop-k l = l.statuses ≡ made l.k (basis_status l.tab)
