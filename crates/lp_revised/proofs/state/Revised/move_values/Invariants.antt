-- The loop over the positions.
use Rattle.std.proofs.Common.{◌≡◌, Ok}
use Rattle.lp_revised.specs.Moved.{WithValues, moves_by}
use Rattle.lp_revised.proofs.state.Revised.move_values.Given as goal

-- the columns so far have moved
abbrev pub invariant-loop-i : goal.invariant-loop-i
invariant-loop-i l = record {
  moved : moves_by l.starts l.fn.self.bare l.solved l.theta l.but l.i ≡ Ok l.self.bare.value;
  rest : WithValues l.fn.self l.self;
}
