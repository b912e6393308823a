-- An artificial that is not 0, and phase two.
use Rattle.std.proofs.Common.{sym, ◌∙◌}
use Rattle.std.proofs.lemmas.Result.{IfOk-weaker}
use Rattle.lp_row_runs.proofs.BothPhases.{over_stays, stuck_ends, goes_second, few_costs}
use Rattle.lp_row_runs.proofs.phases.between.Goals as goal

pub returns-then-is_stuck-clause-run : goal.returns-then-is_stuck-clause-run
returns-then-is_stuck-clause-run g c = λ t costs reached shown.
    IfOk-weaker c.ended.result _ _
    (λ pause. stuck_ends g.N.Listed.of g.T.Words.value c.args.budget c.args.form.now c.args.state.now.used t c.args.state.now pause
    (sym (c.is_stuck.ensures t shown) ∙ c.if-is_stuck.true)) (c.ended.ensures.run t reached shown)

pub returns-clause-run : goal.returns-clause-run
returns-clause-run g c = λ t costs reached shown.
    goes_second g.N.Listed.of g.T.Words.value c.args.budget c.args.form.now c.args.state.now.used t c.second.new.state
    c.second.result reached (sym (c.is_stuck.ensures t shown) ∙ c.if-is_stuck.false)
    (few_costs g.T.Words.value c.args.form.now c.args.state.now.tab t shown c.requires.ready.rows
    c.requires.ready.cols costs)
    (λ u r d. c.second.ensures.run u r (c.in_ok-phase_two.ensures.shown c.if-not-branch.false t u reached shown d))

pub returns-then-is_stuck-clause-ready : goal.returns-then-is_stuck-clause-ready
returns-then-is_stuck-clause-ready g c =
    IfOk-weaker c.ended.result _ _ (over_stays g.T.Words.value c.args.form.now c.args.state.now) c.ended.ensures.over

pub second-requires-clause-ready : goal.second-requires-clause-ready
second-requires-clause-ready g c =
    let made = c.in_ok-phase_two.ensures in
    record {
      whole = made.whole c.if-not-branch.false;
      rows = c.requires.ready.rows ∙ sym (made.rows c.if-not-branch.false);
      cols = c.requires.ready.cols ∙ sym (made.cols c.if-not-branch.false);
    }
