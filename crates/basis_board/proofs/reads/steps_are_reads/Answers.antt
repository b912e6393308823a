use Rattle.basis_board.proofs.StepLemmas.{steps_read}
use Rattle.basis_board.proofs.reads.steps_are_reads.Goals as goal

pub returns : goal.returns
returns c = steps_read
