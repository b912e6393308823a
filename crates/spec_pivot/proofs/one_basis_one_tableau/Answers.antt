use Rattle.spec_pivot.proofs.Same.{one_tableau}
use Rattle.spec_pivot.proofs.one_basis_one_tableau.Goals as goal

pub returns : goal.returns
returns c = one_tableau
