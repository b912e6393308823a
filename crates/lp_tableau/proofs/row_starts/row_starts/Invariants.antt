-- The loop over the rows.
use Rattle.std.proofs.Common.{◌≡◌, Some, Ok}
use Rattle.spec_exact.specs.Run.{list_run}
use Rattle.spec_exact.specs.Narrow.{number_limit}
use Rattle.spec_simplex.specs.Start.{row_start}
use Rattle.lp_tableau.proofs.row_starts.row_starts.Given as goal

-- the rows so far are there
abbrev pub invariant-loop-i : goal.invariant-loop-i
invariant-loop-i l = list_run l.i (row_start (Some number_limit) l.form) ≡ Ok l.starts.items
