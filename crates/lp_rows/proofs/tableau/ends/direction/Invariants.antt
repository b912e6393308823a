-- The moves so far, each of the kind of the list.
use Rattle.std.proofs.Common.{◌≡◌, All}
use Rattle.spec_exact.specs.Run.{made}
use Rattle.spec_simplex.specs.Tableau.{Tableau}
use Rattle.spec_runs.specs.Cold.{moves_by}
use Rattle.lp_rows.specs.Shows.{Shows}
use Rattle.lp_rows.proofs.tableau.ends.direction.Given as goal

abbrev pub invariant-loop-k : goal.invariant-loop-k
invariant-loop-k g l =
    ((t : Tableau) → Shows g.T.Words.value l.tab t →
    l.direction ≡ made l.k (λ k. g.N.Listed.of (moves_by t l.e.col l.e.direction k))) × All g.N.Listed.fits l.direction
