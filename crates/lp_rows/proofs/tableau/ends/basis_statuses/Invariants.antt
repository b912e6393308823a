-- The statuses so far.
use Rattle.std.proofs.Common.{◌≡◌}
use Rattle.spec_exact.specs.Run.{made}
use Rattle.spec_simplex.specs.Tableau.{Tableau}
use Rattle.spec_runs.specs.Cold.{basis_status}
use Rattle.lp_rows.specs.Shows.{Shows}
use Rattle.lp_rows.proofs.tableau.ends.basis_statuses.Given as goal

abbrev pub invariant-loop-k : goal.invariant-loop-k
invariant-loop-k g l = (t : Tableau) → Shows g.T.Words.value l.tab t → l.list ≡ made l.k (basis_status t)
