-- The rows of the basis, if they are fit.
use Rattle.lp_row_runs.proofs.Ended.{rows_of}
use Rattle.lp_row_runs.proofs.start.at_basis.Goals as goal

pub if_fit-requires : goal.if_fit-requires
if_fit-requires g c = (rows_of _ _ _ c.in-Rows.is c.in_ok-tab.ensures.whole).whole

pub returns-in-Rows-clause-run : goal.returns-in-Rows-clause-run
returns-in-Rows-clause-run g c = λ proper costs.
    c.if_fit.ensures.run c.args.form.now c.args.basis.now proper c.requires costs
    (rows_of _ _ _ c.in-Rows.is (c.in_ok-tab.ensures.shown proper))

pub returns-in-Rows-clause-ready : goal.returns-in-Rows-clause-ready
returns-in-Rows-clause-ready g c =
    c.if_fit.ensures.ready c.args.form.now (rows_of _ _ _ c.in-Rows.is c.in_ok-tab.ensures.whole)
