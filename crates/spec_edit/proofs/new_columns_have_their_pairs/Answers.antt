use Rattle.spec_edit.proofs.PairsGiven.{column-with_pairs}
use Rattle.spec_edit.proofs.new_columns_have_their_pairs.Goals as goal

pub returns : goal.returns
returns c = column-with_pairs
