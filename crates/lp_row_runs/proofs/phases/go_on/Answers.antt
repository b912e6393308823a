-- An end of phase one and what follows it, and what is left.
use Rattle.std.proofs.Common.{refl, sym, ◌∙◌}
use Rattle.std.proofs.lemmas.Result.{IfOk-weaker}
use Rattle.lp_row_runs.proofs.BothPhases.{first_ends, first_left}
use Rattle.lp_row_runs.proofs.phases.go_on.Goals as goal

pub returns-in-Ended-clause-run : goal.returns-in-Ended-clause-run
returns-in-Ended-clause-run g c = λ t costs reached shown.
    let e = c.in-Ended.ensures.run t reached shown in
    IfOk-weaker c.between.result _ _
    (first_ends g.N.Listed.of g.T.Words.value c.args.budget c.args.form.now c.args.state.now.used t
    c.args.state.now.phase c.in-One.is c.run.new.tab c.run.new.used c.in-Ended.field-0 e c.between.new.state)
    (c.between.ensures.run e.tableau costs e.reached e.shown)

pub returns-in-Narrow-clause-run : goal.returns-in-Narrow-clause-run
returns-in-Narrow-clause-run g c = λ t costs reached shown.
    first_left g.N.Listed.of g.T.Words.value c.args.budget c.args.form.now c.args.state.now.used t
    c.args.state.now.phase c.in-One.is _ refl (c.in-Narrow.ensures.run t reached shown)

pub between-requires-clause-ready : goal.between-requires-clause-ready
between-requires-clause-ready g c =
    let kept = c.in-Ended.ensures.kept.0 in
    record {
      whole = kept.whole;
      rows = c.requires.ready.rows ∙ sym kept.rows;
      cols = c.requires.ready.cols ∙ sym kept.cols;
    }

pub returns-in-Narrow-clause-ready : goal.returns-in-Narrow-clause-ready
returns-in-Narrow-clause-ready g c =
    let kept = c.in-Narrow.ensures.kept in
    record {
      whole = kept.whole;
      rows = c.requires.ready.rows ∙ sym kept.rows;
      cols = c.requires.ready.cols ∙ sym kept.cols;
    }
