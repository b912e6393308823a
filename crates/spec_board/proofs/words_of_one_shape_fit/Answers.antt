use Rattle.spec_board.proofs.PackedBases.{unpacked_fits}
use Rattle.spec_board.proofs.words_of_one_shape_fit.Goals as goal

pub returns : goal.returns
returns c = λ f words is w same. unpacked_fits f is words same w
