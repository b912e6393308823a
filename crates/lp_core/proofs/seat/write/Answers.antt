use Rattle.std.proofs.Common.{rules}
use Rattle.lp_core.proofs.Words.{past_stays}
use Rattle.lp_core.proofs.seat.write.Goals as goal

pub returns-else-place-len-clause-items : goal.returns-else-place-len-clause-items
returns-else-place-len-clause-items c = past_stays _ _ _ (search rules)
