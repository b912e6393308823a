use Rattle.spec_mps.proofs.Agree.{same_reading}
use Rattle.spec_mps.proofs.wide.narrow_numbers_are_read_the_same.Goals as goal

pub returns : goal.returns
returns c = same_reading
