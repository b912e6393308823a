-- The loop over the columns.
use Rattle.std.proofs.Common.{◌≡◌}
use Rattle.spec_exact.specs.Run.{made}
use Rattle.spec_simplex.specs.Start.{start_value}
use Rattle.lp_tableau.proofs.start.values.Given as goal

-- the columns so far are there
abbrev pub invariant-loop-k : goal.invariant-loop-k
invariant-loop-k l = l.list.items ≡ made l.k (start_value l.form l.starts)
