use Rattle.spec_solve.proofs.ExactAnswers.{narrow_shown}
use Rattle.spec_solve.proofs.narrow_answers_are_exact.Goals as goal

pub returns : goal.returns
returns c = λ m budget known cert basis pivots h. narrow_shown m known cert h.0 h.1 h.2
