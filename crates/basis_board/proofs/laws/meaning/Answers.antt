use Rattle.basis_board.proofs.Means.{means}
use Rattle.basis_board.proofs.laws.meaning.Goals as goal

pub returns : goal.returns
returns c = λ places s r. means places s r
