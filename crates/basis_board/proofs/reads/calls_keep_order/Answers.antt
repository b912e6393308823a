use Rattle.basis_board.proofs.KeepOrder.{looks_keep, puts_keep}
use Rattle.basis_board.proofs.reads.calls_keep_order.Goals as goal

pub returns-clause-look : goal.returns-clause-look
returns-clause-look c = λ shape v w look looks before after orderly. looks_keep v before orderly shape w look looks

pub returns-clause-put : goal.returns-clause-put
returns-clause-put c =
    λ words v w put formed puts before after orderly. puts_keep v before orderly words w put formed puts
