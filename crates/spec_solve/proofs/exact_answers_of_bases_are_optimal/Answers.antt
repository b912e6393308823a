use Rattle.spec_solve.proofs.ExactAnswers.{at_optimum}
use Rattle.spec_solve.proofs.exact_answers_of_bases_are_optimal.Goals as goal

pub returns : goal.returns
returns c = λ m budget starting a basis h is. at_optimum m a h basis is
