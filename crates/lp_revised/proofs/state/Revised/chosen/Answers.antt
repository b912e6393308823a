-- The choice may be made.
use Rattle.std.proofs.Common.{sym}
use Rattle.lp_revised.proofs.Sights.{may_do}
use Rattle.lp_revised.proofs.state.Revised.chosen.Goals as goal

pub returns-clause-possible : goal.returns-clause-possible
returns-clause-possible c =
    rw c.chosen.ensures
    (may_do c.args.starts.now c.args.self.now.bare c.args.solved.now c.args.e _ (sym c.in_ok-best.ensures))
