use Rattle.spec_board.proofs.PackedBases.{front_is, packed_fits}
use Rattle.spec_board.proofs.packed_words_are_well_formed.Goals as goal

pub returns : goal.returns
returns c = record { front = front_is; formed = λ f basis is b. packed_fits f is basis b }
