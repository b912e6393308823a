-- The rows that are cleared.
use Rattle.lp_rows.proofs.Lasts.{AreSoFar, cleared_at}
use Rattle.lp_rows.proofs.tableau.moves.clear_all.Given as goal

abbrev pub invariant-loop-i : goal.invariant-loop-i
invariant-loop-i g l =
    AreSoFar g.T.Words.value l.n l.i (cleared_at g.T.Words.value l.j l.own l.fn.rows) l.fn.rows l.rows
