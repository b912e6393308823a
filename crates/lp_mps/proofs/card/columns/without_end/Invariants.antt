use Rattle.std.proofs.Common.{◌≡◌, take}
use Rattle.spec_mps.specs.Fields as field
use Rattle.lp_mps.proofs.card.columns.without_end.Given as goal

abbrev pub invariant-loop-len : goal.invariant-loop-len
invariant-loop-len l = field.without_end (take l.len l.text) ≡ field.without_end l.text
