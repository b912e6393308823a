-- The loop over the columns.
use Rattle.std.proofs.Common.{◌≡◌, None, Ok}
use Rattle.spec_check.specs.Run as run
use Rattle.lp_check.proofs.wide.point.columns_within.Given as goal

-- the values of the first j columns are within their bounds
abbrev pub invariant-loop-j : goal.invariant-loop-j
invariant-loop-j l = run.each l.j (run.column_within_run None l.model l.x) ≡ Ok tt
