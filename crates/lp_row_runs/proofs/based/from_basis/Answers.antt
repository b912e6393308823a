-- The rows with their costs.
use Rattle.lp_row_runs.proofs.Ended.{rows_of}
use Rattle.lp_row_runs.proofs.based.from_basis.Goals as goal

pub with_costs-requires : goal.with_costs-requires
with_costs-requires g c = rows_of _ _ _ c.in-Rows.is c.in_ok-tab.ensures.whole

pub returns-in-Rows-clause-shown : goal.returns-in-Rows-clause-shown
returns-in-Rows-clause-shown g c = λ proper.
    c.with_costs.ensures.shown c.args.basis.now proper c.requires
    (rows_of _ _ _ c.in-Rows.is (c.in_ok-tab.ensures.shown proper))
