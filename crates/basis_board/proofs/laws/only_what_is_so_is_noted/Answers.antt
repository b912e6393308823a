use Rattle.basis_board.proofs.InTime.{only_so, allowed_so}
use Rattle.basis_board.proofs.laws.only_what_is_so_is_noted.Goals as goal

pub returns-clause-so : goal.returns-clause-so
returns-clause-so c = only_so

pub returns-clause-allowed : goal.returns-clause-allowed
returns-clause-allowed c = allowed_so
