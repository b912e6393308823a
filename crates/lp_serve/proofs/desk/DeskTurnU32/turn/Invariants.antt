-- The links so far.
use Rattle.lp_base.specs.Listening.{listener_of}
use Rattle.lp_serve.proofs.Turning.{Turning}
use Rattle.lp_serve.proofs.desk.DeskTurnU32.turn.Given as goal

abbrev pub invariant-loop-index : goal.invariant-loop-index
invariant-loop-index g l =
    Turning (listener_of g.N.Listen.log g.N.Listen.accept_faults) l.board l.shared
    (record { job = l.fn.self; pass = l.fn.pass }) l.index (record { job = l.self; pass = l.pass })
