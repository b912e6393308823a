-- No row so far has a range.
use Rattle.std.proofs.Common.{◌≡◌, false, take}
use Rattle.std.specs.List.{list_any}
use Rattle.spec_mps.specs.Written.{has_range}
use Rattle.lp_mps.proofs.write.sections.has_ranges.Given as goal

abbrev pub invariant-loop-i : goal.invariant-loop-i
invariant-loop-i l = list_any has_range (take l.i l.model.rows) ≡ false
