use Rattle.basis_board.proofs.Timing.{made_then}
use Rattle.basis_board.proofs.laws.notes_are_made_then.Goals as goal

pub returns : goal.returns
returns c = made_then
