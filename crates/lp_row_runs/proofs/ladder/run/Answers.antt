-- An end at this width, and one in wider words.
use Rattle.lp_row_runs.proofs.Widths.{pause_ended, pause_left, pause_ready, then_ends}
use Rattle.lp_row_runs.proofs.ladder.run.Goals as goal

pub returns-in-Ended-clause-run : goal.returns-in-Ended-clause-run
returns-in-Ended-clause-run g c = λ t costs reached shown.
    pause_ended g.T.Words.value _ _ _ g.N.Listed.of _ _ _ c.in-Ended.is (c.in_ok-end.ensures.run t costs reached shown)

pub resume-requires : goal.resume-requires
resume-requires g c = pause_ready g.T.Words.value _ _ _ c.in-Narrow.is c.in_ok-end.ensures.ready

pub returns-in-Narrow-clause-run : goal.returns-in-Narrow-clause-run
returns-in-Narrow-clause-run g c = λ t costs reached shown.
    let l = pause_left g.T.Words.value _ _ _ g.N.Listed.of _ _ c.in-Narrow.is (c.in_ok-end.ensures.run t costs reached shown) in
    then_ends g.N.Listed.of _ _ c.resume.result l.same (c.resume.ensures.run l.tableau costs l.reached l.shown)
