-- The loop over the rows.
use Rattle.std.proofs.Common.{◌≡◌, Some, Ok}
use Rattle.spec_exact.specs.Narrow.{number_limit}
use Rattle.spec_check.specs.Run as run
use Rattle.lp_check.proofs.multipliers.rows_tight.Given as goal

-- condition 4 holds at the first i rows
abbrev pub invariant-loop-i : goal.invariant-loop-i
invariant-loop-i l = run.each l.i (run.row_tight_run (Some number_limit) l.model l.x l.y) ≡ Ok tt
