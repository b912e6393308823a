use Rattle.std.proofs.Common.{rules}
use Rattle.lp_core.proofs.StageSteps.{ask_replies, ask_looks}
use Rattle.lp_core.proofs.seat.Seat.ask.Goals as goal

pub returns-in-Reply-clause-fits : goal.returns-in-Reply-clause-fits
returns-in-Reply-clause-fits c =
    ask_replies _ _ _ _ _ _ _ c.self.view_is _ _ _ (search rules) c.in-Reply.ensures

pub returns-in-Look-clause-fits : goal.returns-in-Look-clause-fits
returns-in-Look-clause-fits c = ask_looks _ _ _ _ _ _ _ c.self.view_is _ _ _ (search rules) c.in-Look.ensures
