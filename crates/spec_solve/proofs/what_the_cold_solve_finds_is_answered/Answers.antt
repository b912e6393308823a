use Rattle.spec_solve.proofs.TrueAnswers.{cold_found}
use Rattle.spec_solve.proofs.what_the_cold_solve_finds_is_answered.Goals as goal

pub returns : goal.returns
returns c = cold_found
