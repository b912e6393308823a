use Rattle.std.proofs.Common.{◌≡◌, drop}
use Rattle.spec_mps.specs.Fields as field
use Rattle.lp_mps.proofs.card.columns.without_front.Given as goal

abbrev pub invariant-loop-at : goal.invariant-loop-at
invariant-loop-at l = field.without_front (drop l.at l.text) ≡ field.without_front l.text
