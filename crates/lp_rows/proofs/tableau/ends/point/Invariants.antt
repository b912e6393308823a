-- The values so far, each of the kind of the list.
use Rattle.std.proofs.Common.{◌≡◌, All}
use Rattle.spec_exact.specs.Run.{made}
use Rattle.spec_simplex.specs.Tableau.{Tableau, value_at}
use Rattle.lp_rows.specs.Shows.{Shows}
use Rattle.lp_rows.proofs.tableau.ends.point.Given as goal

abbrev pub invariant-loop-j : goal.invariant-loop-j
invariant-loop-j g l =
    ((t : Tableau) → Shows g.T.Words.value l.tab t → l.point ≡ made l.j (λ j. g.N.Listed.of (value_at t j)))
    × All g.N.Listed.fits l.point
