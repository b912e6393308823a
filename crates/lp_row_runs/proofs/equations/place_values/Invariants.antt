-- The columns so far have their values.
use Rattle.std.proofs.Common.{◌≡◌, List}
use Rattle.spec_pivot.specs.declared.status.Status.{Status}
use Rattle.spec_simplex.specs.Form.{Form}
use Rattle.lp_rows.specs.Shows.{IsWhole, width}
use Rattle.lp_row_runs.specs.Rows.{IsUnsolved}
use Rattle.lp_row_runs.proofs.equations.place_values.Given as goal

abbrev pub invariant-loop-k : goal.invariant-loop-k
invariant-loop-k g l = record {
  whole : IsWhole g.T.Words.value l.tab;
  size : width l.tab ≡ width l.fn.tab;
  placed : (f : Form) (basis : List Status) → IsUnsolved g.T.Words.value f basis 0 l.fn.tab →
      IsUnsolved g.T.Words.value f basis l.k l.tab;
}
