-- The loop over the columns.
use Rattle.std.proofs.Common.{◌≡◌}
use Rattle.spec_exact.specs.Run.{made}
use Rattle.spec_runs.specs.Cold.{basis_status}
use Rattle.lp_revised.proofs.state.Revised.factor_basis.Given as goal

-- the statuses of the columns so far
abbrev pub invariant-loop-k : goal.invariant-loop-k
invariant-loop-k l = l.list.items ≡ made l.k (basis_status l.self.bare)
