use Rattle.spec_server.proofs.ColdAnswers.{solve_answers}
use Rattle.spec_server.proofs.solves_answer_as_the_cold_run.Goals as goal

pub returns : goal.returns
returns c = solve_answers
