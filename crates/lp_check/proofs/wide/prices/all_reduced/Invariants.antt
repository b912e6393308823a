-- Those of the columns so far.
use Rattle.std.proofs.Common.{◌≡◌, ◌<◌, ℕ, length}
use Rattle.spec_exact.specs.Fraction.{◌-ℚ◌}
use Rattle.spec_model.specs.Model.{cost, part}
use Rattle.spec_check.specs.Checks.{signed, priced}
use Rattle.lp_ratio.specs.Multiple.{multiple}
use Rattle.lp_check.proofs.wide.prices.all_reduced.Given as goal

-- the list has the reduced costs of the first j columns
abbrev pub invariant-loop-j : goal.invariant-loop-j
invariant-loop-j l =
    (length l.out.items ≡ l.j)
    × ((k : ℕ) → k < l.j → multiple l.times (part l.out.items k)
    ≡ multiple l.times (signed l.model.sense (cost l.model k)) -ℚ priced l.model l.numbers k)
