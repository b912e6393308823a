use Rattle.basis_board.proofs.OnceBelow.{length_own}
use Rattle.basis_board.proofs.laws.whole_passes_own_all.Goals as goal

pub returns : goal.returns
returns c = λ v n h. length_own v n h
