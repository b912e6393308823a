-- The cards so far.
use Rattle.std.proofs.Common.{[], ◌∷◌, take}
use Rattle.std.specs.List.{flat_map}
use Rattle.spec_mps.specs.Written.{row_card}
use Rattle.lp_mps.specs.Adds.{IsAdded}
use Rattle.lp_mps.proofs.write.line.Writer.row_cards.Given as goal

abbrev pub invariant-loop-i : goal.invariant-loop-i
invariant-loop-i l = IsAdded l.self.style (flat_map (λ r. row_card r ∷ []) (take l.i l.model.rows)) l.initial.to l.to
