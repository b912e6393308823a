use Rattle.std.proofs.Common.{rules}
use Rattle.lp_core.proofs.StageSteps.{counts_on, puts_full, puts_claim}
use Rattle.lp_core.proofs.seat.Seat.count.Goals as goal

pub returns-in-Counts-clause-fits : goal.returns-in-Counts-clause-fits
returns-in-Counts-clause-fits c =
    counts_on _ _ _ _ _ _ _ c.self.view_is c.in-Counts.shape _ c.in-Counts.is (search rules)

pub returns-then-count-limit-clause-fits : goal.returns-then-count-limit-clause-fits
returns-then-count-limit-clause-fits c =
    puts_full _ _ _ _ _ _ _ c.self.view_is _ _ c.in-Puts.words c.in-Puts.is c.self.invariant (search rules)
    c.put-reply.ensures

pub returns-else-count-limit-clause-fits : goal.returns-else-count-limit-clause-fits
returns-else-count-limit-clause-fits c =
    puts_claim _ _ _ _ _ _ _ c.self.view_is c.in-Puts.words c.in-Puts.is c.self.invariant (search rules)
