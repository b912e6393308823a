-- What is left stays the same while pieces are passed over.
use Rattle.std.proofs.Common.{◌≡◌, ◌-◌, length}
use Rattle.lp_base.specs.Pieces.{pieces_left}
use Rattle.lp_base.proofs.memory.MemSource.give.Given as goal

abbrev pub invariant-loop-self : goal.invariant-loop-self
invariant-loop-self l = record {
  left : pieces_left l.self.piece l.self.from l.self.pieces
      ≡ pieces_left l.fn.self.piece l.fn.self.from l.fn.self.pieces;
  calls : l.self.calls ≡ l.fn.self.calls;
}

abbrev pub decreases-loop-self : goal.decreases-loop-self
decreases-loop-self l = length l.self.pieces - l.self.piece
