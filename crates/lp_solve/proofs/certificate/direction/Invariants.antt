-- The loop over the columns.
use Rattle.std.proofs.Common.{◌≡◌, All}
use Rattle.spec_exact.specs.Narrow.{IsNarrow}
use Rattle.spec_exact.specs.Run.{made}
use Rattle.spec_runs.specs.Cold.{moves_by}
use Rattle.lp_solve.proofs.certificate.direction.Given as goal

-- the moves so far are there, each of at most 127 bits
abbrev pub invariant-loop-k : goal.invariant-loop-k
invariant-loop-k l = (l.direction ≡ made l.k (moves_by l.tab l.j l.way)) × All IsNarrow l.direction
