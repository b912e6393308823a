use Rattle.spec_mps.proofs.RoundTrip.{read_written}
use Rattle.spec_mps.proofs.written_numbers_are_read.Goals as goal

pub returns : goal.returns
returns c = read_written
