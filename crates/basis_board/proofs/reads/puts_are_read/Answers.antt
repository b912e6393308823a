use Rattle.basis_board.proofs.ReadTying.{puts_read}
use Rattle.basis_board.proofs.reads.puts_are_read.Goals as goal

pub returns : goal.returns
returns c = puts_read
