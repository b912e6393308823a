-- The loop over the entries, from the last to the first.
use Rattle.std.proofs.Common.{drop}
use Rattle.lp_tableau.proofs.FormColumns.{HoldsPart}
use Rattle.lp_tableau.proofs.coefficients.put_column.Given as goal

-- the entries from t on are put
abbrev pub invariant-loop-t : goal.invariant-loop-t
invariant-loop-t l = HoldsPart l.form l.j (drop l.t l.entries) l.grid
