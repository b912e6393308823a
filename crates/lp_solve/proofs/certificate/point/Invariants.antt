-- The loop over the columns.
use Rattle.std.proofs.Common.{◌≡◌, All}
use Rattle.spec_exact.specs.Narrow.{IsNarrow}
use Rattle.spec_exact.specs.Run.{made}
use Rattle.spec_simplex.specs.Tableau.{value_at}
use Rattle.lp_solve.proofs.certificate.point.Given as goal

-- the values so far are there, each of at most 127 bits
abbrev pub invariant-loop-j : goal.invariant-loop-j
invariant-loop-j l = (l.point ≡ made l.j (value_at l.tab)) × All IsNarrow l.point
