-- The positions so far.
use Rattle.lp_rows.specs.Second.{IsLessRows}
use Rattle.lp_rows.proofs.tableau.second.take_off_all.Given as goal

abbrev pub invariant-loop-i : goal.invariant-loop-i
invariant-loop-i g l = IsLessRows g.T.Words.value l.tab l.i l.fn.costs l.costs
