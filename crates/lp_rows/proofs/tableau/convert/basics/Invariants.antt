-- The basic columns so far.
use Rattle.std.proofs.Common.{◌≡◌}
use Rattle.spec_exact.specs.Run.{made}
use Rattle.spec_simplex.specs.Tableau.{basic_at}
use Rattle.lp_rows.proofs.tableau.convert.basics.Given as goal

abbrev pub invariant-loop-i : goal.invariant-loop-i
invariant-loop-i l = l.list.items ≡ made l.i (basic_at l.tab)
