use Rattle.std.proofs.Common.{rules}
use Rattle.lp_core.proofs.FormedWords.{done_formed}
use Rattle.lp_core.proofs.StageSteps.{puts_done, writes_agree, pending_formed}
use Rattle.lp_core.proofs.seat.Seat.done.Goals as goal

pub returns-clause-fits : goal.returns-clause-fits
returns-clause-fits c =
    puts_done _ _ _ _ _ _ _ c.self.view_is _ _ c.in-Writes.words c.in-Writes.place _ c.in-Writes.is
    c.self.invariant c.put-reply.ensures (search rules)

pub returns-clause-formed : goal.returns-clause-formed
returns-clause-formed c =
    done_formed _ _ _ _ c.write.ensures.items
    (pending_formed _ _ (writes_agree _ _ c.in-Writes.words _ c.in-Writes.is c.self.invariant)) c.requires.formed
