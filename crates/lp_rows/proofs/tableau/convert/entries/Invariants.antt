-- The entries so far.
use Rattle.std.proofs.Common.{◌≡◌}
use Rattle.spec_exact.specs.Run.{made}
use Rattle.spec_simplex.specs.Tableau.{entry_at}
use Rattle.lp_rows.proofs.tableau.convert.entries.Given as goal

abbrev pub invariant-loop-k : goal.invariant-loop-k
invariant-loop-k l = l.list.items ≡ made l.k (entry_at l.tab l.position)
