-- The loop over the columns.
use Rattle.std.proofs.Common.{◌≡◌, ◌++◌}
use Rattle.spec_exact.specs.Run.{made}
use Rattle.spec_simplex.specs.Start.{start_entry, start_at}
use Rattle.lp_tableau.proofs.start.push_row.Given as goal

-- the columns so far are there
abbrev pub invariant-loop-k : goal.invariant-loop-k
invariant-loop-k l = l.block.items ≡ l.fn.block.items ++ made l.k (start_entry l.form (start_at l.starts l.i) l.i)
