-- The loop over the rows.
use Rattle.std.proofs.Common.{◌≡◌, ◌+◌, All}
use Rattle.spec_exact.specs.Narrow.{IsNarrow}
use Rattle.spec_exact.specs.Run.{made}
use Rattle.spec_simplex.specs.Tableau.{reduced_at}
use Rattle.lp_solve.proofs.certificate.multipliers.Given as goal

-- the multipliers so far are there, each of at most 127 bits
abbrev pub invariant-loop-i : goal.invariant-loop-i
invariant-loop-i l = (l.multipliers ≡ made l.i (λ i. reduced_at l.tab (l.tab.cols + i))) × All IsNarrow l.multipliers
