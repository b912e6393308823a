-- The bounds so far.
use Rattle.lp_rows.specs.Second.{AreZeroed}
use Rattle.lp_rows.proofs.tableau.second.zero_from.Given as goal

abbrev pub invariant-loop-k : goal.invariant-loop-k
invariant-loop-k g l = AreZeroed g.T.Words.value l.first l.k l.fn.bounds l.bounds
