-- No column so far has other bounds.
use Rattle.std.proofs.Common.{◌≡◌, false, take}
use Rattle.std.specs.List.{list_any}
use Rattle.spec_mps.specs.Written.{has_bounds}
use Rattle.lp_mps.proofs.write.sections.has_bounds.Given as goal

abbrev pub invariant-loop-j : goal.invariant-loop-j
invariant-loop-j l = list_any has_bounds (take l.j l.model.columns) ≡ false
