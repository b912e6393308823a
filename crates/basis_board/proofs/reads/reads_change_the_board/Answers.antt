use Rattle.basis_board.proofs.Changing.{reads_change}
use Rattle.basis_board.proofs.reads.reads_change_the_board.Goals as goal

pub returns : goal.returns
returns c = λ places session now next made. reads_change places session now next made
