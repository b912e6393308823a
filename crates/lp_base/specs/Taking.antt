-- The lines that several calls took, and what was read of the input when a reader stops.
use Rattle.std.specs.Prelude.{ℕ, ◌≡◌, ◌≢◌, ◌<◌, ◌≤◌, ◌+◌, ◌^◌, ◌⊎◌, List, [], ◌++◌}
use Rattle.std.specs.Prelude.{All, length, take, Option, Result, Bool, true, false}
use Rattle.std.specs.Io.KnownBytes.{Consumes, IsAtEnd}
use Rattle.spec_text.specs.Lines.{lines_of, ended_lines_of, input_limit}
use Rattle.spec_text.specs.declared.line.Line.{Line}
use Rattle.lp_base.specs.LinesState.{LinesState}
use Rattle.lp_base.specs.NextLine.{GivesNext}
use Rattle.lp_base.specs.declared.lines.LineStop.{LineStop}
use Rattle.lp_base.specs.declared.lines.LineStop.TheVariants.{Read, NoMemory}

-- whatever bytes follow `raw`, the lines of them all are these lines and then those of the bytes that follow; so are
-- the lines that a line feed ends
pub record BeginsWith (raw : List ℕ) (lines : List (Line (List ℕ))) : Type 0 where
  pub all : (more : List ℕ) → lines_of (raw ++ more) ≡ lines ++ lines_of more
  pub ended : (more : List ℕ) → ended_lines_of (raw ++ more) ≡ lines ++ ended_lines_of more

-- the input has ended, these are all lines of the bytes `raw`, and none is unread
pub record IsWhole (after : Option (List ℕ)) (raw ahead : List ℕ) (lines : List (Line (List ℕ))) : Type 0 where
  pub all : lines_of raw ≡ lines
  pub none : ahead ≡ []
  pub at_end : IsAtEnd after

-- what lines taken of the bytes `raw` are, by whether the input has ended: all of its lines, or its first ones,
-- whatever bytes follow
abbrev pub Tells : Bool → Option (List ℕ) → List ℕ → List ℕ → List (Line (List ℕ)) → Type 0
Tells false after raw ahead lines = BeginsWith raw lines
Tells true after raw ahead lines = IsWhole after raw ahead lines

-- these lines were taken, of the reader's unread bytes and those read since; the reader goes from `old` to `new`
pub record TakesLines (after : Option (List ℕ)) (old : LinesState) (bytes : List ℕ)
    (new : LinesState) (lines : List (Line (List ℕ))) : Type 0 where
  pub live : old.ended ≡ false
  pub raw : List ℕ
  pub cut : old.ahead ++ bytes ≡ raw ++ new.ahead
  pub count : new.given ≡ old.given + length raw
  pub bound : old.given ≤ 2 ^ 26 → new.given ≤ 2 ^ 26
  pub near : length old.ahead < 4096 → length new.ahead < 4096
  pub told : Tells new.ended after raw new.ahead lines

-- the input had ended before: nothing is read, no line is taken, and the reader stays
pub record StaysEnded (before after : Option (List ℕ)) (old : LinesState)
    (bytes : List ℕ) (new : LinesState) (lines : List (Line (List ℕ))) : Type 0 where
  pub ended : old.ended ≡ true
  pub unread : bytes ≡ []
  pub left : after ≡ before
  pub stays : new ≡ old
  pub none : lines ≡ []

-- some bytes were read, and these lines were taken, or none, as the input had ended before
pub record ReadsLines (before after : Option (List ℕ))
    (old new : LinesState) (lines : List (Line (List ℕ))) : Type 0 where
  pub bytes : List ℕ
  pub moved : Consumes before after bytes
  pub taken : TakesLines after old bytes new lines ⊎ StaysEnded before after old bytes new lines

-- these lines were taken, and then the reader answered with this result
pub record ReadsUntil (before after : Option (List ℕ)) (first : LinesState)
    (lines : List (Line (List ℕ))) (result : Result (Line (List ℕ)) LineStop) : Type 0 where
  pub mid : Option (List ℕ)
  pub old : LinesState
  pub new : LinesState
  pub reads : ReadsLines before mid first old lines
  pub gives : GivesNext mid after old new result

-- the whole input was read, and these are its lines
pub record ReadsAll (before after : Option (List ℕ)) (lines : List (Line (List ℕ))) : Type 0 where
  pub read : List ℕ
  pub moved : Consumes before after read
  pub all : lines_of read ≡ lines
  pub bound : length read ≤ 2 ^ 26
  pub at_end : IsAtEnd after

-- a part of the input was read, and these are its lines that end within the most bytes that may be read
pub record ReadsFront (before after : Option (List ℕ)) (lines : List (Line (List ℕ))) : Type 0 where
  pub read : List ℕ
  pub moved : Consumes before after read
  pub ended : ended_lines_of (take input_limit read) ≡ lines

-- what was read are the bytes of these lines, then a part of the next one, and no more than a buffer behind that
pub record ReadsLittleMore (read : List ℕ) (lines : List (Line (List ℕ))) : Type 0 where
  pub raw : List ℕ
  pub part : List ℕ
  pub ahead : List ℕ
  pub cut : read ≡ raw ++ (part ++ ahead)
  pub taken : lines_of raw ≡ lines
  pub plain : All (λ b. b ≢ 10) part
  pub near : length ahead ≤ 4096

-- these are all lines that end in what was read before the source failed, and little more was read
pub record ReadsToFault (before after : Option (List ℕ)) (lines : List (Line (List ℕ))) : Type 0 where
  pub front : ReadsFront before after lines
  pub near : ReadsLittleMore front.read lines

-- these are the first lines that end in what was read, perhaps not all, and little more was read
pub record ReadsPart (before after : Option (List ℕ)) (lines : List (Line (List ℕ))) : Type 0 where
  pub more : List (Line (List ℕ))
  pub front : ReadsFront before after (lines ++ more)
  pub near : ReadsLittleMore front.read lines

-- the input is longer than may be read, these are all lines that end within that, and little more was read
pub record ReadsPast (before after : Option (List ℕ)) (lines : List (Line (List ℕ))) : Type 0 where
  pub front : ReadsFront before after lines
  pub past : 2 ^ 26 < length front.read
  pub near : ReadsLittleMore front.read lines

-- these are the lines taken before a reader stopped: all that end, where the source failed; perhaps not all, where
-- memory ran out
abbrev pub StopsWith : LineStop → Option (List ℕ) → Option (List ℕ) → List (Line (List ℕ)) → Type 0
StopsWith Read before after lines = ReadsToFault before after lines
StopsWith NoMemory before after lines = ReadsPart before after lines
