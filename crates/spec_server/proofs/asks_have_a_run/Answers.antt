use Rattle.spec_server.specs.Machine.{opening}
use Rattle.spec_server.proofs.Answered.{answered, asked_in-answered, answered_runs, ample_answers}
use Rattle.spec_server.proofs.asks_have_a_run.Goals as goal

pub returns : goal.returns
returns c = λ places asks kept. (
  answered places (λ _. opening) asks,
  asked_in-answered places (λ _. opening) asks,
  answered_runs places (λ _. opening) asks (λ _. tt) kept,
  ample_answers places (λ _. opening) asks,
)
