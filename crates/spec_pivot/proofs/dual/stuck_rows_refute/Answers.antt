use Rattle.spec_pivot.proofs.Refuted.{stops, row_refutes, refuted}
use Rattle.spec_pivot.proofs.dual.stuck_rows_refute.Goals as goal

pub returns : goal.returns
returns c = record {
  row =
      λ m n f cost b t way p c g l none.
      (stops m n f cost b t g way p c l none, row_refutes m n f cost b t g way p c l none);
  none = refuted;
}
