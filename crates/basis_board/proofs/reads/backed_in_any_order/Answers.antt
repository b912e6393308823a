use Rattle.basis_board.proofs.AnyOrder.{any_order}
use Rattle.basis_board.proofs.reads.backed_in_any_order.Goals as goal

pub returns : goal.returns
returns c = any_order
