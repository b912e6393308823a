-- Where a reader of lines stands.
use Rattle.std.specs.Prelude.{ℕ, List, [], Bool, false}

-- the state of a reader of lines: the bytes read and not given yet, how many were given,
-- and whether the input has ended
pub record LinesState : Type 0 where
  pub ahead : List ℕ
  pub given : ℕ
  pub ended : Bool

-- the state of a reader of lines that has read nothing
abbrev pub at_start : LinesState
at_start = record { ahead = []; given = 0; ended = false }
