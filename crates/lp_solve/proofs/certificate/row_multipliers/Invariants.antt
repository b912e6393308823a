-- The loop over the rows.
use Rattle.std.proofs.Common.{◌≡◌, ◌+◌, All}
use Rattle.spec_exact.specs.Narrow.{IsNarrow}
use Rattle.spec_exact.specs.Run.{made}
use Rattle.spec_simplex.specs.Step.{directed}
use Rattle.spec_simplex.specs.Tableau.{entry_at}
use Rattle.lp_solve.proofs.certificate.row_multipliers.Given as goal

-- the entries so far are there, each of at most 127 bits
abbrev pub invariant-loop-i : goal.invariant-loop-i
invariant-loop-i l =
    (l.multipliers ≡ made l.i (λ i. directed l.way (entry_at l.tab l.position (l.tab.cols + i)))) × All IsNarrow
    l.multipliers
