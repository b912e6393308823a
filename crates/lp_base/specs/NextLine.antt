-- What a reader of lines gives.
use Rattle.std.specs.Prelude.{ℕ, ◌≡◌, ◌≢◌, ◌≤◌, ◌<◌, ◌+◌, ◌-◌, ◌^◌, ◌⊎◌, List, [], ◌∷◌, ◌++◌, All}
use Rattle.std.specs.Prelude.{length, take, slice_index, Option, Result, Ok, Err, Bool, true, false}
use Rattle.std.specs.Io.KnownBytes.{Consumes, IsAtEnd, Keeps}
use Rattle.std.specs.Str.Lines.{strip_carriage_return}
use Rattle.spec_text.specs.Lines.{line_of, line_limit}
use Rattle.spec_text.specs.declared.line.Line.{Line}
use Rattle.spec_text.specs.declared.line.Line.TheVariants.{Text, Long, End, Over}
use Rattle.lp_base.specs.LinesState.{LinesState}
use Rattle.lp_base.specs.declared.outside.Failed.{Failed}
use Rattle.lp_base.specs.declared.lines.LineStop.{LineStop}
use Rattle.lp_base.specs.declared.lines.LineStop.TheVariants.{Read, NoMemory}
use Rattle.lp_base.specs.declared.part.Part.{Part}

-- the part is what a reader keeps of a line with these bytes: the first of them, up to one more than a line may have,
-- their number, and the last byte, or 0 of no bytes
pub record IsKept (part : Part) (raw : List ℕ) : Type 0 where
  pub bytes : part.bytes.items ≡ take (line_limit + 1) raw
  pub len : part.len ≡ length raw
  pub last : part.last ≡ slice_index raw (length raw - 1)

-- the bytes behind a run: with the line feed that was found before them; or as they are
abbrev pub behind : Bool → List ℕ → List ℕ
behind true after = 10 ∷ after
behind false after = after

-- The reader moves at least one byte: a run without a line feed goes from its unread bytes to the part of a line, and
-- the line feed behind it, if one was found, is taken too.
pub record TakesRun (old new : LinesState) (before after : Part) (found : Bool) : Type 0 where
  pub run : List ℕ
  pub plain : All (λ b. b ≢ 10) run
  pub cut : old.ahead ≡ run ++ behind found new.ahead
  pub count : new.given + length new.ahead ≡ old.given + length old.ahead
  pub some : old.given < new.given
  pub bound : new.given ≤ 2 ^ 26
  pub ended : new.ended ≡ old.ended
  pub kept : (raw : List ℕ) → IsKept before raw → IsKept after (raw ++ run)

-- the input has ended: it had before, and nothing was read; or it had not, and nothing is left now
abbrev pub HasEnded : LinesState → Option (List ℕ) → Option (List ℕ) → Type 0
HasEnded old before after = ((old.ended ≡ true) × (after ≡ before)) ⊎ ((old.ended ≡ false) × IsAtEnd after)

-- some bytes of the buffer are unread and the input has not ended, as the flag says; or none is unread and it has
abbrev pub HasMore : Bool → LinesState → LinesState → Option (List ℕ) → Option (List ℕ) → Type 0
HasMore true old new before after = (0 < length new.ahead) × (old.ended ≡ false) × (new.ended ≡ false)
HasMore false old new before after = (new.ahead ≡ []) × (new.ended ≡ true) × HasEnded old before after

-- The reader read bytes behind its unread ones, and says whether some are unread now; where none is, the input has
-- ended. Or the source failed, and all is as it was.
abbrev pub ReadsOn : Option (List ℕ) → Option (List ℕ) → LinesState → LinesState → Result Bool Failed → Type 0
ReadsOn before after old new (Ok more) =
    (bytes : List ℕ) × Consumes before after bytes × (new.ahead ≡ old.ahead ++ bytes)
    × (new.given ≡ old.given) × HasMore more old new before after
ReadsOn before after old new (Err e) = Keeps before after × (old.ahead ≡ []) × (old.ended ≡ false) × (new ≡ old)

-- the line is that of the bytes `before` up to their first line feed, less one carriage return at their end: these
-- bytes, or their number where they are too many. They and the line feed are taken, and `after` is what stays
pub record TakesEnded (before after : List ℕ) (line : Line (List ℕ)) : Type 0 where
  pub raw : List ℕ
  pub plain : All (λ b. b ≢ 10) raw
  pub cut : before ≡ raw ++ 10 ∷ after
  pub is : line ≡ line_of (strip_carriage_return raw)

-- the line is that of all bytes `before`, as they stand: these bytes, or their number where they are too many. There
-- are some, they have no line feed, and none stays
pub record TakesLast (before after : List ℕ) (line : Line (List ℕ)) : Type 0 where
  pub some : 0 < length before
  pub plain : All (λ b. b ≢ 10) before
  pub all : after ≡ []
  pub is : line ≡ line_of before

-- the reader gives this line, of its unread bytes and those read in the call;
-- of the others less than a buffer stays unread
pub record GivesLine (after : Option (List ℕ)) (old : LinesState)
    (bytes : List ℕ) (new : LinesState) (line : Line (List ℕ)) : Type 0 where
  pub live : old.ended ≡ false
  pub taken : (TakesEnded (old.ahead ++ bytes) new.ahead line × (new.ended ≡ false))
      ⊎ (TakesLast (old.ahead ++ bytes) new.ahead line × (new.ended ≡ true) × IsAtEnd after)
  pub count : new.given + length new.ahead ≡ old.given + length (old.ahead ++ bytes)
  pub bound : new.given ≤ 2 ^ 26
  pub near : length new.ahead < 4096

-- the reader has no byte left, and the input has ended
pub record GivesEnd (before after : Option (List ℕ)) (old : LinesState)
    (bytes : List ℕ) (new : LinesState) : Type 0 where
  pub none : old.ahead ++ bytes ≡ []
  pub stands : new ≡ record { ahead = []; given = old.given; ended = true }
  pub bound : old.given ≤ 2 ^ 26
  pub ended : HasEnded old before after

-- The input is too long: after the lines that were given no further one ends within its first 2 ^ 26 bytes, and there
-- are more, of which at most a buffer was read.
pub record IsOver (old : LinesState) (bytes : List ℕ) : Type 0 where
  pub live : old.ended ≡ false
  pub raw : List ℕ
  pub rest : List ℕ
  pub plain : All (λ b. b ≢ 10) raw
  pub cut : old.ahead ++ bytes ≡ raw ++ rest
  pub len : old.given + length raw ≡ 2 ^ 26
  pub more : 0 < length rest
  pub near : length rest ≤ 4096

-- the source failed before the end of a line, whose bytes up to there are given up, though they count as given
pub record IsBrokenOff (old : LinesState) (bytes : List ℕ) (new : LinesState) : Type 0 where
  pub live : old.ended ≡ false
  pub plain : All (λ b. b ≢ 10) (old.ahead ++ bytes)
  pub stands : new ≡ record { ahead = []; given = old.given + length (old.ahead ++ bytes); ended = false }
  pub bound : old.given + length (old.ahead ++ bytes) ≤ 2 ^ 26

-- memory is wanting for a line, which has not ended in the bytes that were read before the last buffer
pub record IsGivenUp (old : LinesState) (bytes : List ℕ) : Type 0 where
  pub live : old.ended ≡ false
  pub raw : List ℕ
  pub rest : List ℕ
  pub plain : All (λ b. b ≢ 10) raw
  pub cut : old.ahead ++ bytes ≡ raw ++ rest
  pub near : length rest ≤ 4096

-- The reader's answer is right for the bytes read in the call: a line, the end of the input, an input that is too long,
-- a failed source, or no memory.
abbrev pub AnswersWith : Option (List ℕ) → Option (List ℕ) → LinesState → List ℕ → LinesState →
    Result (Line (List ℕ)) LineStop → Type 0
AnswersWith before after old bytes new (Ok (Text text)) = GivesLine after old bytes new (Text text)
AnswersWith before after old bytes new (Ok (Long len)) = GivesLine after old bytes new (Long len)
AnswersWith before after old bytes new (Ok End) = GivesEnd before after old bytes new
AnswersWith before after old bytes new (Ok Over) = IsOver old bytes
AnswersWith before after old bytes new (Err Read) = IsBrokenOff old bytes new
AnswersWith before after old bytes new (Err NoMemory) = IsGivenUp old bytes

-- some bytes, perhaps none, were read of the source, and the reader's answer is right for its unread bytes and these
pub record GivesNext (before after : Option (List ℕ)) (old new : LinesState)
    (result : Result (Line (List ℕ)) LineStop) : Type 0 where
  pub bytes : List ℕ
  pub moved : Consumes before after bytes
  pub gives : AnswersWith before after old bytes new result
