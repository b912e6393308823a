-- The loop over the columns.
use Rattle.std.proofs.Common.{◌≡◌, Some, Ok}
use Rattle.spec_exact.specs.Narrow.{number_limit}
use Rattle.spec_check.specs.Run as run
use Rattle.lp_check.proofs.multipliers.columns_tight.Given as goal

-- condition 3 holds at the first j columns
abbrev pub invariant-loop-j : goal.invariant-loop-j
invariant-loop-j l = run.each l.j (run.column_tight_run (Some number_limit) l.model l.x l.y) ≡ Ok tt
