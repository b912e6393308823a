-- So many zeros.
use Rattle.std.proofs.Common.{◌≡◌, ◌<◌, ℕ, length}
use Rattle.spec_exact.specs.Fraction.{0ℚ}
use Rattle.spec_model.specs.Model.{part}
use Rattle.lp_check.proofs.wide.sums.zeros.Given as goal

-- the list has i numbers, each of them 0
abbrev pub invariant-loop-i : goal.invariant-loop-i
invariant-loop-i l = (length l.zeros.items ≡ l.i) × ((k : ℕ) → k < l.i → part l.zeros.items k ≡ 0ℚ)
