use Rattle.basis_board.proofs.ReadTying.{looks_read}
use Rattle.basis_board.proofs.reads.looks_are_read.Goals as goal

pub returns : goal.returns
returns c = looks_read
