use Rattle.basis_board.proofs.Tying.{ties}
use Rattle.basis_board.proofs.laws.steps_are_events.Goals as goal

pub returns : goal.returns
returns c = λ places s r. ties places s r
