-- The loop over the rows.
use Rattle.std.proofs.Common.{◌≡◌, None, Ok}
use Rattle.spec_exact.specs.Fraction.{0ℚ}
use Rattle.spec_exact.specs.Run.{steps}
use Rattle.spec_check.specs.Run as run
use Rattle.lp_check.proofs.wide.farkas.rows_ask.Given as goal

-- the sum is what the first i rows ask for
abbrev pub invariant-loop-i : goal.invariant-loop-i
invariant-loop-i l = steps l.i (run.row_asks_run None l.model l.y) 0ℚ ≡ Ok l.sum
