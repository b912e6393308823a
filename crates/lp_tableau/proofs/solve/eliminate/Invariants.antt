-- The loop over the columns.
use Rattle.std.proofs.Common.{Some}
use Rattle.spec_exact.specs.Narrow.{number_limit}
use Rattle.lp_tableau.proofs.EliminatedColumns.{Solving}
use Rattle.lp_tableau.proofs.solve.eliminate.Given as goal

-- the columns so far have their positions
abbrev pub invariant-loop-j : goal.invariant-loop-j
invariant-loop-j l = Solving (Some number_limit) l.form l.basis l.j l.grid l.basic
