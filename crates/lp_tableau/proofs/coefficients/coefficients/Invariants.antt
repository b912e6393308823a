-- The loop over the columns.
use Rattle.lp_tableau.specs.Begun.{HoldsColumns}
use Rattle.lp_tableau.proofs.coefficients.coefficients.Given as goal

-- the columns so far are put
abbrev pub invariant-loop-j : goal.invariant-loop-j
invariant-loop-j l = HoldsColumns l.form l.j l.grid
