-- The loop over the asks.
use Rattle.std.proofs.Common.{◌≡◌, ◌-◌, ◌^◌, ◌≤◌}
use Rattle.spec_server.specs.Halves.{Nothing}
use Rattle.basis_board.specs.Rule.{Consistent}
use Rattle.lp_session.specs.Boarding.{NotesOn}
use Rattle.lp_serve.proofs.LinkTurns.{Turn}
use Rattle.lp_serve.proofs.link.serve_asks.Given as goal

abbrev pub invariant-loop-ask : goal.invariant-loop-ask
invariant-loop-ask g l = record {
  turn : Turn (g.L.Source.left l.fn.link) (g.L.Source.left l.link) (g.L.Sink.taken l.fn.link)
      (g.L.Sink.taken l.link) l.lines l.fn.pass.view l.pass.view l.session.state;
  rests : l.session.awaits ≡ Nothing;
  board : l.pass.board ≡ l.fn.pass.board;
  consistent : Consistent l.fn.pass.view → Consistent l.pass.view;
  share : l.pass.view.share ≡ l.fn.pass.view.share;
  notes : NotesOn l.fn.pass l.pass;
  read : g.L.Source.read_faults l.fn.link ≤ g.L.Source.read_faults l.link;
  write : g.L.Sink.write_faults l.fn.link ≤ g.L.Sink.write_faults l.link;
}

abbrev pub decreases-loop-ask : goal.decreases-loop-ask
decreases-loop-ask g l = 2 ^ 26 - l.lines.given
