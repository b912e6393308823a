-- The multipliers so far, each of the kind of the list.
use Rattle.std.proofs.Common.{◌≡◌, ◌+◌, All}
use Rattle.spec_exact.specs.Run.{made}
use Rattle.spec_simplex.specs.Tableau.{Tableau, reduced_at}
use Rattle.lp_rows.specs.Shows.{Shows}
use Rattle.lp_rows.proofs.tableau.ends.multipliers.Given as goal

abbrev pub invariant-loop-i : goal.invariant-loop-i
invariant-loop-i g l =
    ((t : Tableau) → Shows g.T.Words.value l.tab t →
    l.multipliers ≡ made l.i (λ i. g.N.Listed.of (reduced_at t (t.cols + i)))) × All g.N.Listed.fits l.multipliers
