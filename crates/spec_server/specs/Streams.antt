-- The bytes that a source has left, and those that a sink has taken, where they tell of them, before a call and after
-- it.
use Rattle.std.specs.Prelude.{ℕ, List, Option}

-- the bytes of two streams before and after a call, each where its stream tells of them: those still to be read, and
-- those that were written
pub record Streams : Type 0 where
  pub left_before : Option (List ℕ)
  pub left_after : Option (List ℕ)
  pub taken_before : Option (List ℕ)
  pub taken_after : Option (List ℕ)

-- the streams of a call, by what was to be read before and after it, and what was written before and after it
abbrev pub streams : Option (List ℕ) → Option (List ℕ) → Option (List ℕ) → Option (List ℕ) → Streams
streams before after taken now =
    record { left_before = before; left_after = after; taken_before = taken; taken_after = now }
