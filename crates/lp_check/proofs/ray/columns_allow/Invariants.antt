-- The loop over the columns.
use Rattle.std.proofs.Common.{◌≡◌, Ok}
use Rattle.spec_check.specs.Run as run
use Rattle.lp_check.proofs.ray.columns_allow.Given as goal

-- the bounds of the first j columns allow the ray
abbrev pub invariant-loop-j : goal.invariant-loop-j
invariant-loop-j l = run.each l.j (run.column_allows_run l.model l.r) ≡ Ok tt
