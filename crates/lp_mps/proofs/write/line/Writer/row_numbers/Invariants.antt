-- The cards so far.
use Rattle.std.proofs.Common.{take}
use Rattle.std.specs.List.{flat_map}
use Rattle.lp_mps.specs.Adds.{IsAdded}
use Rattle.lp_mps.specs.RowNumbers.{number_cards}
use Rattle.lp_mps.proofs.write.line.Writer.row_numbers.Given as goal

abbrev pub invariant-loop-i : goal.invariant-loop-i
invariant-loop-i l =
    IsAdded l.self.style (flat_map (number_cards l.which) (take l.i l.model.rows)) l.initial.to l.to
