use Rattle.std.proofs.Common.{rules}
use Rattle.lp_core.proofs.StageSteps.{works_reply, works_publish}
use Rattle.lp_core.proofs.seat.Seat.work.Goals as goal

pub returns-in-Reply-clause-fits : goal.returns-in-Reply-clause-fits
returns-in-Reply-clause-fits c =
    works_reply _ _ _ _ _ _ _ c.self.view_is _ _ _ (search rules) c.in-Reply.ensures

pub returns-in-Publish-clause-fits : goal.returns-in-Publish-clause-fits
returns-in-Publish-clause-fits c =
    works_publish _ _ _ _ _ _ _ c.self.view_is _ _ _ (search rules) c.in-Publish.ensures
