-- What the command `gen` writes. It reads nothing.
use Rattle.std.specs.Prelude.{ℕ, ◌≡◌, List, [], Option, Result, Ok, Err}
use Rattle.std.specs.Io.KnownBytes.{Consumes, Appends}
use Rattle.lp_base.specs.Beside.{Takes}
use Rattle.lp_line.specs.declared.halt.Halt.{Halt}
use Rattle.lp_line.specs.declared.halt.Halt.TheVariants as halts
use Rattle.spec_server.specs.Streams.{Streams}

-- the whole of some output that `Out` allows was written
pub record WritesAll (Out : List ℕ → Type 0) (before after : Option (List ℕ)) : Type 0 where
  pub output : List ℕ
  pub is_output : Out output
  pub written : Appends before after output

-- a beginning of some output that `Out` allows was written
pub record WritesInPart (Out : List ℕ → Type 0) (before after : Option (List ℕ)) : Type 0 where
  pub output : List ℕ
  pub is_output : Out output
  pub written : Takes before after output

-- What was written, by the result: a whole output that `Out` allows; a beginning of one, if writing failed; nothing, if
-- memory ran out. There is no other halt.
abbrev pub Writes : (List ℕ → Type 0) → Option (List ℕ) → Option (List ℕ) → Result (Unit {0}) Halt → Type 0
Writes Out before after (Ok u) = WritesAll Out before after
Writes Out before after (Err halts.Write) = WritesInPart Out before after
Writes Out before after (Err halts.NoMemory) = Appends before after []
Writes Out before after (Err halts.Read) = ⊥
Writes Out before after (Err halts.Cut) = ⊥
Writes Out before after (Err halts.Over) = ⊥

-- Nothing was read. With the status 0 a whole output that `Out` allows was written,
-- with 4 a beginning of one, and with 5 nothing.
pub record TellsOfWriting (Out : List ℕ → Type 0) (s : Streams) (code : ℕ) : Type 0 where
  pub reads : Consumes s.left_before s.left_after []
  pub done : code ≡ 0 → WritesAll Out s.taken_before s.taken_after
  pub sink : code ≡ 4 → WritesInPart Out s.taken_before s.taken_after
  pub memory : code ≡ 5 → Appends s.taken_before s.taken_after []
