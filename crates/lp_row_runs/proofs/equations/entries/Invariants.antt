-- The entries so far.
use Rattle.std.proofs.Common.{◌≡◌}
use Rattle.spec_exact.specs.Fraction.{0ℚ}
use Rattle.spec_exact.specs.Run.{made}
use Rattle.spec_simplex.specs.declared.ends.RowStart.TheVariants.{Within}
use Rattle.spec_simplex.specs.Start.{start_entry}
use Rattle.lp_row_runs.proofs.equations.entries.Given as goal

abbrev pub invariant-loop-k : goal.invariant-loop-k
invariant-loop-k l = l.list.items ≡ made l.k (start_entry l.form (Within 0ℚ) l.i)
