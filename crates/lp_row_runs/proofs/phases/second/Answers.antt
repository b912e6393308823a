-- An end, and what is left.
use Rattle.std.proofs.lemmas.Result.{IfOk-weaker}
use Rattle.lp_row_runs.proofs.BothPhases.{over_stays, second_ends, second_left}
use Rattle.lp_row_runs.proofs.phases.second.Goals as goal

pub returns-in-Ended-clause-run : goal.returns-in-Ended-clause-run
returns-in-Ended-clause-run g c = λ t reached shown.
    let e = c.in-Ended.ensures.run t reached shown in
    IfOk-weaker c.ended.result _ _
    (second_ends g.N.Listed.of g.T.Words.value c.args.budget c.args.form.now c.args.state.now.used t c.run.new.tab c.run.new.used
    c.in-Ended.end e _) (c.ended.ensures.run e.tableau e.reached e.shown)

pub returns-in-Narrow-clause-run : goal.returns-in-Narrow-clause-run
returns-in-Narrow-clause-run g c = λ t reached shown.
    second_left g.N.Listed.of g.T.Words.value c.args.budget c.args.form.now c.args.state.now.used t _ c.requires.phase
    (c.in-Narrow.ensures.run t reached shown)

pub returns-in-Ended-clause-ready : goal.returns-in-Ended-clause-ready
returns-in-Ended-clause-ready g c =
    IfOk-weaker c.ended.result _ _ (over_stays g.T.Words.value c.args.form.now _) c.ended.ensures.over
