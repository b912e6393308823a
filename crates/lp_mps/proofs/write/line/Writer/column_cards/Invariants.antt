-- The cards so far.
use Rattle.std.proofs.Common.{take}
use Rattle.std.specs.List.{flat_map}
use Rattle.spec_mps.specs.Written.{column_cards}
use Rattle.lp_mps.specs.Adds.{IsAdded}
use Rattle.lp_mps.proofs.write.line.Writer.column_cards.Given as goal

abbrev pub invariant-loop-j : goal.invariant-loop-j
invariant-loop-j l = IsAdded l.self.style (flat_map (column_cards l.model) (take l.j l.model.columns)) l.initial.to l.to
