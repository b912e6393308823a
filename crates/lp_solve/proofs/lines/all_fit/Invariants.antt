-- Each number so far fits its line.
use Rattle.std.proofs.Common.{ℕ, ◌<◌, get_or}
use Rattle.spec_exact.specs.Fraction.{ℚ}
use Rattle.spec_solve.specs.Exact.{FitsLine}
use Rattle.lp_solve.proofs.lines.all_fit.Given as goal

abbrev pub invariant-loop-i : goal.invariant-loop-i
invariant-loop-i l = (k : ℕ) → k < l.i → (d : ℚ) → FitsLine (get_or l.list k d)
