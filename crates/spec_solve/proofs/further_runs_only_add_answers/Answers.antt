use Rattle.spec_solve.proofs.Orders.{stated_kept, solve_kept}
use Rattle.spec_solve.proofs.further_runs_only_add_answers.Goals as goal

pub returns : goal.returns
returns c = record { stated = stated_kept; solve = solve_kept }
