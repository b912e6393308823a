-- The state is that of the basis.
use Rattle.lp_row_runs.proofs.Ended.{ready_of, stands_of, stands_ends}
use Rattle.lp_row_runs.proofs.ladder.ThenWidths.run_warm.Goals as goal

pub run-end-requires : goal.run-end-requires
run-end-requires g c = ready_of _ c.args.form.now _ _ c.in-Ready.is c.in_ok-state.ensures.ready

pub returns-in-Ready : goal.returns-in-Ready
returns-in-Ready g c = λ proper costs.
    let s = stands_of _ c.args.form.now c.args.basis.now _ _ c.in-Ready.is (c.in_ok-state.ensures.run proper costs) in
    stands_ends _ c.args.form.now c.args.basis.now c.args.budget _ s c.run-end.result
    (c.run-end.ensures.run s.tableau costs s.reached s.shown)
