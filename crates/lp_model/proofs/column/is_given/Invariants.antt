-- None of the pairs so far has the name.
use Rattle.std.proofs.Common.{◌≡◌, false, take}
use Rattle.spec_edit.specs.Edited.{is_given}
use Rattle.lp_model.proofs.column.is_given.Given as goal

abbrev pub invariant-loop-pair : goal.invariant-loop-pair
invariant-loop-pair l = is_given l.name (take l.pair-index l.pairs) ≡ false
