-- Those so far.
use Rattle.std.proofs.Common.{◌≡◌, ◌<◌, ℕ, length}
use Rattle.spec_model.specs.Model.{part}
use Rattle.lp_ratio.specs.Multiple.{multiple}
use Rattle.lp_check.proofs.wide.sums.all_divided.Given as goal

-- the new list has the first i numbers of the list, each divided by `by`
abbrev pub invariant-loop-i : goal.invariant-loop-i
invariant-loop-i l =
    (length l.out.items ≡ l.i) × ((k : ℕ) → k < l.i → multiple l.by (part l.out.items k) ≡ part l.list k)
