-- The cards of the entries so far.
use Rattle.std.proofs.Common.{[], ◌∷◌, take}
use Rattle.std.specs.List.{flat_map}
use Rattle.spec_model.specs.Model.{row}
use Rattle.spec_mps.specs.Written.{number_card}
use Rattle.lp_mps.specs.Adds.{IsAdded}
use Rattle.lp_mps.proofs.write.line.Writer.entries.Given as goal

abbrev pub invariant-loop-i : goal.invariant-loop-i
invariant-loop-i l =
    IsAdded l.self.style
    (flat_map (λ e. number_card l.name (row l.model e.0).name e.1 ∷ []) (take l.i-index l.entries)) l.initial.to l.to
