-- The statuses of the basis, and one for each artificial.
use Rattle.std.proofs.Common.{refl, arith}
use Rattle.lp_tableau.proofs.GrowingLists.{filled_up}
use Rattle.lp_row_runs.proofs.equations.statuses.Goals as goal

pub returns : goal.returns
returns c =
    filled_up c.args.basis.now _ _ _ _ _ c.in_ok-statuses.statuses.len _ _
    c.in_ok-statuses.ensures.items (omega (arith, c.in_ok-statuses.statuses.ok.0)) c.len.ensures
    c.rows.ensures.value refl c.in_ok-resize.ensures.items
