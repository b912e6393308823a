use Rattle.spec_solve.proofs.Stated.{stated_is_solved}
use Rattle.spec_solve.proofs.stated_runs_are_solves.Goals as goal

pub returns : goal.returns
returns c = stated_is_solved
