-- The loop over the columns.
use Rattle.std.proofs.Common.{◌≡◌, Some, Ok}
use Rattle.spec_exact.specs.Fraction.{0ℚ}
use Rattle.spec_exact.specs.Run.{steps}
use Rattle.spec_exact.specs.Narrow.{number_limit}
use Rattle.spec_check.specs.Run as run
use Rattle.lp_check.proofs.farkas.columns_give.Given as goal

-- the sum is the most that the first j columns give
abbrev pub invariant-loop-j : goal.invariant-loop-j
invariant-loop-j l = steps l.j (run.column_gives_run (Some number_limit) l.model l.y) 0ℚ ≡ Ok l.sum
