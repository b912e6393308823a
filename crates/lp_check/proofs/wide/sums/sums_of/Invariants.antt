-- The sums over the columns so far.
use Rattle.std.proofs.Common.{◌≡◌, ◌<◌, ℕ, length}
use Rattle.spec_exact.specs.Fraction.{◌*ℚ◌}
use Rattle.spec_exact.specs.Sums.{sum_below}
use Rattle.spec_model.specs.Model.{height, coefficient, part}
use Rattle.lp_check.proofs.wide.sums.sums_of.Given as goal

-- the sum of each row is that of coefficient times number over the first j columns
abbrev pub invariant-loop-j : goal.invariant-loop-j
invariant-loop-j l =
    (length l.sums.items ≡ height l.model)
    × ((i : ℕ) → i < height l.model →
    part l.sums.items i ≡ sum_below l.j (λ k. coefficient l.model i k *ℚ part l.numbers k))
