-- The rows that are moved.
use Rattle.spec_exact.specs.Fraction.{over}
use Rattle.lp_natural.specs.Whole.{whole}
use Rattle.lp_rows.proofs.Lasts.{AreSoFar, moved_at}
use Rattle.lp_rows.proofs.tableau.moves.move_all.Given as goal

abbrev pub invariant-loop-i : goal.invariant-loop-i
invariant-loop-i g l =
    AreSoFar g.T.Words.value l.n l.i
    (moved_at g.T.Words.value l.n l.j
    (over (whole l.by.negative (g.T.Words.value l.by.size)) 1) l.fn.rows) l.fn.rows l.rows
