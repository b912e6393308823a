-- The state is the same in wider words.
use Rattle.lp_row_runs.proofs.BothPhases.{of_some}
use Rattle.lp_row_runs.proofs.Widths.{then_ends}
use Rattle.lp_row_runs.proofs.ladder.ThenWidths.resume.Goals as goal

pub run-end-requires : goal.run-end-requires
run-end-requires g c = of_some _ _ _ c.in-Some.is (c.in_ok-state.ensures.ready c.args.form.now c.requires)

pub returns-in-Some-clause-run : goal.returns-in-Some-clause-run
returns-in-Some-clause-run g c = λ t costs reached shown.
    let l = of_some _ _ _ c.in-Some.is (c.in_ok-state.ensures.run c.args.budget c.args.form.now t reached shown) in
    then_ends g.N.Listed.of _ _ c.run-end.result l.same (c.run-end.ensures.run l.tableau costs l.reached l.shown)
