use Rattle.spec_solve.proofs.ExactAnswers.{answers_agree}
use Rattle.spec_solve.proofs.exact_answers_agree.Goals as goal

pub returns : goal.returns
returns c = λ m budget other starting given a b h k. answers_agree m a b h k
