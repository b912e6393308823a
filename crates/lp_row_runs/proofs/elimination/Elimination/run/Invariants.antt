-- The columns so far have their positions.
use Rattle.std.proofs.Common.{◌≡◌}
use Rattle.spec_simplex.specs.Form.{Form}
use Rattle.lp_rows.specs.Shows.{width}
use Rattle.lp_row_runs.specs.Rows.{IsComplete, IsSolvedBelow}
use Rattle.lp_row_runs.proofs.elimination.Elimination.run.Given as goal

abbrev pub invariant-loop-j : goal.invariant-loop-j
invariant-loop-j g l = record {
  complete : IsComplete g.T.Words.value l.self;
  size : width l.self.tab ≡ width l.fn.self.tab;
  solved : (f : Form) → IsSolvedBelow g.T.Words.value f l.basis 0 l.fn.self →
      IsSolvedBelow g.T.Words.value f l.basis l.j l.self;
}
