use Rattle.basis_board.proofs.Played.{all_played}
use Rattle.basis_board.proofs.reads.whole_logs_are_played.Goals as goal

pub returns : goal.returns
returns c = all_played
