-- The state is that of the start.
use Rattle.lp_row_runs.proofs.BothPhases.{of_some}
use Rattle.lp_row_runs.proofs.Widths.{then_ends}
use Rattle.lp_row_runs.proofs.ladder.ThenWidths.run_cold.Goals as goal

pub run-end-requires : goal.run-end-requires
run-end-requires g c =
    of_some _ _ _ c.in-Some.is (c.in_ok-state.ensures.ready c.args.form.now c.requires.rows c.requires.cols)

pub returns-in-Some-clause-run : goal.returns-in-Some-clause-run
returns-in-Some-clause-run g c = λ costs reached.
    let l = of_some _ _ _ c.in-Some.is (c.in_ok-state.ensures.run c.args.budget c.args.form.now reached) in
    then_ends g.N.Listed.of _ _ c.run-end.result l.same (c.run-end.ensures.run l.tableau costs l.reached l.shown)
