-- The asks so far.
use Rattle.std.proofs.Common.{vec_len}
use Rattle.lp_script.proofs.OneMore.{Turning}
use Rattle.lp_script.proofs.part.PartTurn.turn.Given as goal

abbrev pub invariant-loop-asked : goal.invariant-loop-asked
invariant-loop-asked g l = Turning l.board l.fn.self.asks.items (record { job = l.self; pass = l.pass })

abbrev pub decreases-loop-asked : goal.decreases-loop-asked
decreases-loop-asked g l = vec_len l.self.asks
