-- The bounds so far.
use Rattle.std.proofs.Common.{◌≡◌}
use Rattle.spec_exact.specs.Run.{made}
use Rattle.spec_simplex.specs.Tableau.{lower_at}
use Rattle.lp_rows.proofs.tableau.convert.lowers.Given as goal

abbrev pub invariant-loop-k : goal.invariant-loop-k
invariant-loop-k l = l.list.items ≡ made l.k (lower_at l.tab)
