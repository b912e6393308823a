-- Bounds that clash, and an operation that is refused.
use Rattle.lp_solve.proofs.Solved.{form_stop, form_clash}
use Rattle.lp_solve.proofs.ExactLemmas.{clash_answers, refusal_gives_up}
use Rattle.lp_solve.proofs.exact.formless.Goals as goal

pub returns-in-Cause-clause-end : goal.returns-in-Cause-clause-end
returns-in-Cause-clause-end c = λ budget. clash_answers c.args.model.now _ (form_clash _ _ _ c.in-Cause.is c.requires)

pub returns-in-Past-clause-end : goal.returns-in-Past-clause-end
returns-in-Past-clause-end c = λ budget usual.
    refusal_gives_up c.args.model.now budget _ (form_stop _ _ _ c.in-Past.is c.requires)

pub returns-in-Cause-clause-formless : goal.returns-in-Cause-clause-formless
returns-in-Cause-clause-formless c = (_, form_clash _ _ _ c.in-Cause.is c.requires)

pub returns-in-Past-clause-formless : goal.returns-in-Past-clause-formless
returns-in-Past-clause-formless c = (_, form_stop _ _ _ c.in-Past.is c.requires)
