-- The loop over the rows.
use Rattle.lp_tableau.proofs.PivotRows.{IsTurning}
use Rattle.lp_tableau.proofs.elimination.turn.Given as goal

-- the rows so far are done, and row p is as it was
abbrev pub invariant-loop-i : goal.invariant-loop-i
invariant-loop-i l = IsTurning l.first l.others l.turned l.p l.j l.i l.initial.grid l.grid
