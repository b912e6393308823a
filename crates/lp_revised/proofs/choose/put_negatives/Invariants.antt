-- The loop over the entries.
use Rattle.lp_revised.proofs.ScatteredColumns.{NegatedTo}
use Rattle.lp_revised.proofs.choose.put_negatives.Given as goal

-- the rows before the next entry's have their items
abbrev pub invariant-loop-row : goal.invariant-loop-row
invariant-loop-row l = NegatedTo l.form l.k l.row-items l.row-index l.column
