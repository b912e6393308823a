-- The loop over the rows.
use Rattle.std.proofs.Common.{◌≡◌, Some, Ok}
use Rattle.spec_exact.specs.Narrow.{number_limit}
use Rattle.spec_check.specs.Run as run
use Rattle.lp_check.proofs.point.rows_within.Given as goal

-- the activities of the first i rows are within their limits
abbrev pub invariant-loop-i : goal.invariant-loop-i
invariant-loop-i l = run.each l.i (run.row_within_run (Some number_limit) l.model l.x) ≡ Ok tt
