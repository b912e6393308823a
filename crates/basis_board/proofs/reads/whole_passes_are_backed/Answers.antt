use Rattle.basis_board.proofs.WholePass.{whole_backed}
use Rattle.basis_board.proofs.reads.whole_passes_are_backed.Goals as goal

pub returns : goal.returns
returns c = λ v n all now owns tells whole. whole_backed v n now owns tells whole
