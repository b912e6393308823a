use Rattle.spec_solve.proofs.TrueAnswers.{ended_true}
use Rattle.spec_solve.proofs.what_may_be_answered_is_true.Goals as goal

pub returns : goal.returns
returns c = ended_true
