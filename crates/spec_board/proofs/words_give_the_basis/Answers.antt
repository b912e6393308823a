use Rattle.spec_board.proofs.PackedBases.{unpacked_packed}
use Rattle.spec_board.proofs.words_give_the_basis.Goals as goal

pub returns : goal.returns
returns c = λ f basis is all. unpacked_packed f is basis all
