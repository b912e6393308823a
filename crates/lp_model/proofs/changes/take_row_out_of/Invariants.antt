use Rattle.std.proofs.Common.{◌≡◌, ◌++◌, take, drop, map}
use Rattle.spec_edit.proofs.Keeping.{lowered}
use Rattle.lp_model.proofs.changes.take_row_out_of.Given as goal

-- the columns that were passed are without row i, and the others are as they were
abbrev pub invariant-loop-column : goal.invariant-loop-column
invariant-loop-column l =
    l.columns ≡ map (lowered l.i) (take l.column-index l.initial.columns) ++ drop l.column-index l.initial.columns
