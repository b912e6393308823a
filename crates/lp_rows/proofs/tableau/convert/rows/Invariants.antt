-- The rows so far.
use Rattle.lp_rows.specs.Held.{AreRowsOf}
use Rattle.lp_rows.proofs.tableau.convert.rows.Given as goal

abbrev pub invariant-loop-i : goal.invariant-loop-i
invariant-loop-i g l = AreRowsOf g.T.Words.value l.tab (g.T.Words.value l.denominator) l.i l.rows.items
