-- The rows so far.
use Rattle.std.proofs.Common.{◌+◌, List}
use Rattle.spec_pivot.specs.declared.status.Status.{Status}
use Rattle.spec_simplex.specs.Tableau.{at_place}
use Rattle.spec_simplex.specs.Eliminate.{basis_value, unsolved}
use Rattle.lp_row_runs.specs.Rows.{AreRowsAt}
use Rattle.lp_row_runs.proofs.equations.equations.Given as goal

abbrev pub invariant-loop-i : goal.invariant-loop-i
invariant-loop-i g l =
    (basis : List Status) →
    AreRowsAt g.T.Words.value (g.T.Words.value l.denominator) l.i (l.form.cols + l.form.rows) 0
    (basis_value l.form basis) (at_place (unsolved l.form).rows) l.rows.items
