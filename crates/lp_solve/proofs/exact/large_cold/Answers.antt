use Rattle.std.proofs.Common.{None}
use Rattle.lp_solve.proofs.exact.large_cold.Goals as goal

pub returns-in_ok-at_float_end-in-Ok : goal.returns-in_ok-at_float_end-in-Ok
returns-in_ok-at_float_end-in-Ok c = λ budget.
    c.or_open.ensures c.args.model.now budget None (λ usual. absurd (c.requires usual)) c.in_ok-at_float_end-in-Ok.ensures
