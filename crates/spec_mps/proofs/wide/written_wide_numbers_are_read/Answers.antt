use Rattle.spec_mps.proofs.ReadBack.{read_again}
use Rattle.spec_mps.proofs.wide.written_wide_numbers_are_read.Goals as goal

pub returns : goal.returns
returns c = read_again
