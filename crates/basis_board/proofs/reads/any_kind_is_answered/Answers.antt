use Rattle.basis_board.proofs.AnyKind.{any_kind}
use Rattle.basis_board.proofs.reads.any_kind_is_answered.Goals as goal

pub returns : goal.returns
returns c = any_kind
