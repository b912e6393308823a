-- The loop over the columns.
use Rattle.std.proofs.Common.{◌≡◌, None, Ok}
use Rattle.spec_exact.specs.Fraction.{0ℚ}
use Rattle.spec_exact.specs.Run.{steps}
use Rattle.spec_check.specs.Run as run
use Rattle.lp_check.proofs.wide.farkas.columns_give.Given as goal

-- the sum is the most that the first j columns give
abbrev pub invariant-loop-j : goal.invariant-loop-j
invariant-loop-j l = steps l.j (run.column_gives_run None l.model l.y) 0ℚ ≡ Ok l.sum
