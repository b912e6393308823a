-- By the last position so far.
use Rattle.std.proofs.Common.{◌≡◌}
use Rattle.spec_simplex.specs.Tableau.{Tableau}
use Rattle.spec_runs.specs.Cold.{moves_below}
use Rattle.lp_rows.specs.Number.{fraction_of}
use Rattle.lp_rows.specs.Shows.{Shows}
use Rattle.lp_rows.proofs.tableau.ends.move_of.Given as goal

abbrev pub invariant-loop-i : goal.invariant-loop-i
invariant-loop-i g l =
    (t : Tableau) → Shows g.T.Words.value l.tab t → fraction_of g.T.Words.value l.moved ≡ moves_below t l.e.col l.e.direction l.k l.i
