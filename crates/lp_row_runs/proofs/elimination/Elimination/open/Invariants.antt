-- No position so far is open.
use Rattle.std.proofs.Common.{◌≡◌, ℕ, List, None}
use Rattle.spec_pivot.specs.declared.status.Status.{Status}
use Rattle.spec_simplex.specs.Form.{Form}
use Rattle.spec_simplex.specs.Eliminate.{open_below}
use Rattle.lp_row_runs.specs.Rows.{IsSolvedBelow}
use Rattle.lp_row_runs.proofs.elimination.Elimination.open.Given as goal

abbrev pub invariant-loop-i : goal.invariant-loop-i
invariant-loop-i g l =
    (f : Form) (basis : List Status) (c : ℕ) (s : IsSolvedBelow g.T.Words.value f basis c l.self) →
    open_below s.now l.j l.i ≡ None
