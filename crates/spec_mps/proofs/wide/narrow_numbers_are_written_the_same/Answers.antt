use Rattle.spec_mps.proofs.ReadBack.{same_text}
use Rattle.spec_mps.proofs.wide.narrow_numbers_are_written_the_same.Goals as goal

pub returns : goal.returns
returns c = same_text
