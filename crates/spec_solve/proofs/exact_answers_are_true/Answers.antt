use Rattle.spec_solve.proofs.ExactAnswers.{answer_true}
use Rattle.spec_solve.proofs.exact_answers_are_true.Goals as goal

pub returns : goal.returns
returns c = λ m budget starting a h. answer_true m a h
