-- The cards of right sides and of ranges.
use Rattle.std.proofs.Common.{rules}
use Rattle.lp_mps.proofs.SameNumbers.{rhs_card_is, ranges_card_is}
use Rattle.lp_mps.proofs.read.draft.Draft.data_card.Goals as goal

pub returns-in-Some-RightSides : goal.returns-in-Some-RightSides
returns-in-Some-RightSides c = let told = rw rhs_card_is at c.set_card.ensures in search rules

pub returns-in-Some-Ranges : goal.returns-in-Some-Ranges
returns-in-Some-Ranges c = let told = rw ranges_card_is at c.set_card-in-Some-Ranges.ensures in search rules
