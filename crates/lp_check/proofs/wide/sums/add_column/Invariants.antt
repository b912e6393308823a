-- The sums so far, with what the entries still to come add, are those with what all entries add.
use Rattle.std.proofs.Common.{◌≡◌, ◌<◌, ℕ, length, drop}
use Rattle.spec_exact.specs.Fraction.{◌+ℚ◌, ◌*ℚ◌}
use Rattle.spec_model.specs.Model.{entry_of, part}
use Rattle.lp_check.proofs.wide.sums.add_column.Given as goal

-- the sums so far, with what the entries still to come add to their rows, are the old sums with what all entries add
abbrev pub invariant-loop-entry : goal.invariant-loop-entry
invariant-loop-entry l =
    (length l.sums.items ≡ length l.fn.sums.items)
    × ((i : ℕ) → i < length l.fn.sums.items →
    part l.sums.items i +ℚ entry_of (drop l.entry-index l.entries) i *ℚ l.number
    ≡ part l.fn.sums.items i +ℚ entry_of l.entries i *ℚ l.number)
