use Rattle.spec_board.proofs.PackedBases.{same_bases}
use Rattle.spec_board.proofs.one_shape_takes_the_same_bases.Goals as goal

pub returns : goal.returns
returns c = same_bases
