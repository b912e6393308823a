-- The pass of a worker whose turn is over.
use Rattle.std.proofs.Common.{ℕ}
use Rattle.basis_board.specs.declared.board.Board.{Board}
use Rattle.lp_base.specs.Listening.{ListenerState}
use Rattle.lp_workers.specs.declared.hiring.Worker.{Worker}
use Rattle.lp_workers.specs.Passes.{IsFresh, IsUsed}
use Rattle.lp_serve.specs.declared.desk.Desk.{Desk}
use Rattle.lp_serve.proofs.AllServed.{used_of}
use Rattle.lp_serve.proofs.Turning.{Turning, turn_ends}

-- the pass of a worker that has served all links of its turn is a used one of the board
pub turn_used : {N : Type 0} (state : N → ListenerState) (board : Board) (each : ℕ) (begun now : Worker (Desk N)) →
    IsFresh board begun.pass → Turning state board each begun each now → IsUsed board now.pass
turn_used state board each begun now fresh so =
    used_of state board each begun now fresh (turn_ends state board each begun now so)
