-- The pairs are those of a column.
use Rattle.std.proofs.Common.{rules}
use Rattle.lp_mps.proofs.SameNumbers.{entries_are}
use Rattle.lp_mps.proofs.read.draft.Draft.column_by.Goals as goal

pub returns : goal.returns
returns c = let told = rw entries_are at c.pairs.ensures in search rules
