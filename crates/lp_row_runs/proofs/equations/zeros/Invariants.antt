-- The zeros so far.
use Rattle.lp_row_runs.specs.Rows.{AreZeros}
use Rattle.lp_row_runs.proofs.equations.zeros.Given as goal

abbrev pub invariant-loop : goal.invariant-loop
invariant-loop g l = AreZeros g.T.Words.value l.counter l.numbers.items
