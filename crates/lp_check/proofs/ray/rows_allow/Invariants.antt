-- The loop over the rows.
use Rattle.std.proofs.Common.{◌≡◌, Some, Ok}
use Rattle.spec_exact.specs.Narrow.{number_limit}
use Rattle.spec_check.specs.Run as run
use Rattle.lp_check.proofs.ray.rows_allow.Given as goal

-- the limits of the first i rows allow the ray
abbrev pub invariant-loop-i : goal.invariant-loop-i
invariant-loop-i l = run.each l.i (run.row_allows_run (Some number_limit) l.model l.r) ≡ Ok tt
