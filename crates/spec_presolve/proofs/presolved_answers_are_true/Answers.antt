use Rattle.std.proofs.Common.{subst}
use Rattle.spec_solve.specs.Answers.{MayAnswer}
use Rattle.spec_solve.proofs.TrueAnswers.{ended_true}
use Rattle.spec_presolve.proofs.presolved_answers_are_true.Goals as goal

pub returns : goal.returns
returns c m budget p known cert basis pivots is e =
    ended_true m budget known cert basis pivots (subst (MayAnswer m budget) e is.may_answer)
