-- What is said of an input that is read line by line, and what is read and written of it.
use Rattle.std.specs.Prelude.{ℕ, ◌≡◌, ◌≤◌, ◌<◌, ◌⊎◌, ◌+◌, List, [], ◌∷◌, ◌++◌, length, Option, Some, None, Result, Ok}
use Rattle.std.specs.Prelude.{Err}
use Rattle.std.specs.Io.KnownBytes.{Consumes, Appends}
use Rattle.spec_text.specs.Lines.{lines_of, input_limit}
use Rattle.spec_text.specs.declared.line.Line.{Line}
use Rattle.spec_commands.specs.InputSaid.{IsSaid, IsUndecided}
use Rattle.lp_base.specs.Beside.{Takes}
use Rattle.lp_line.specs.declared.halt.Halt.{Halt}
use Rattle.lp_line.specs.declared.halt.Halt.TheVariants as halts
use Rattle.lp_text_commands.specs.declared.exit_status.ExitStatus.{ExitStatus}
use Rattle.spec_server.specs.Streams.{Streams}

-- whatever `Say` allows to be said of lines is what `said` says of them
abbrev pub Agrees : {R : Type 0} → (List (Line (List ℕ)) → Option R → Type 0) → (List (Line (List ℕ)) → Option R) →
    Type 0
Agrees {R} Say said = (lines : List (Line (List ℕ))) (answer : Option R) → Say lines answer → said lines ≡ answer

-- ---- what is read

-- the number 4,096: the most bytes that are read before they are needed
abbrev pub buffer_len : ℕ
buffer_len = 4096

-- the last of some lines decides the result, and less than a buffer of bytes was read behind it
pub record StopsSoon {R : Type 0} (said : List (Line (List ℕ)) → Option R) (read : List ℕ) (what : R) : Type 0 where
  pub lines : List (Line (List ℕ))
  pub last : Line (List ℕ)
  pub undecided : said lines ≡ None
  pub decides : said (lines ++ last ∷ []) ≡ Some what
  pub raw : List ℕ
  pub ahead : List ℕ
  pub cut : read ≡ raw ++ ahead
  pub are_lines : lines_of raw ≡ lines ++ last ∷ []
  pub few : length ahead < buffer_len

-- These bytes were read, and this is said of them. Less than a buffer was read behind the line that decides it, unless
-- the end of the input decides it.
pub record Hears {R : Type 0} (said : List (Line (List ℕ)) → Option R) (before after : Option (List ℕ))
    (what : R) : Type 0 where
  pub read : List ℕ
  pub consumed : Consumes before after read
  pub is_said : IsSaid said after read what
  pub soon : StopsSoon said read what ⊎ (said (lines_of read) ≡ None)

-- some bytes were read, and their lines do not decide what is said
pub record HearsNothing {R : Type 0} (said : List (Line (List ℕ)) → Option R)
    (before after : Option (List ℕ)) : Type 0 where
  pub read : List ℕ
  pub consumed : Consumes before after read
  pub undecided : IsUndecided said read

-- the input is longer than may be read, of which at most a buffer more was read, and nothing is said of it
pub record HearsTooMuch {R : Type 0} (said : List (Line (List ℕ)) → Option R)
    (before after : Option (List ℕ)) : Type 0 where
  pub nothing : HearsNothing said before after
  pub over : input_limit < length nothing.read
  pub soon : length nothing.read ≤ input_limit + buffer_len

-- some bytes of the source were read, of which nothing is asked
pub record Reads (before after : Option (List ℕ)) : Type 0 where
  pub read : List ℕ
  pub consumed : Consumes before after read

-- What was read of the input, by the result: what is said of it; or, by the halt, a part of which nothing is said, too
-- much, or some bytes where memory ran out. There is no other halt.
abbrev pub HearsSo : {R : Type 0} → (List (Line (List ℕ)) → Option R) → Option (List ℕ) → Option (List ℕ) →
    Result R Halt → Type 0
HearsSo said before after (Ok what) = Hears said before after what
HearsSo said before after (Err halts.Read) = HearsNothing said before after
HearsSo said before after (Err halts.Over) = HearsTooMuch said before after
HearsSo said before after (Err halts.NoMemory) = Reads before after
HearsSo said before after (Err halts.Write) = ⊥
HearsSo said before after (Err halts.Cut) = ⊥

-- ---- what is written of what is said: an output that it may have, with its status

-- something is said of what was read, the whole of an output that it may have was written, and the status is that of it
pub record Says {R : Type 0} (said : List (Line (List ℕ)) → Option R) (Out : R → List ℕ → Type 0) (code_of : R → ℕ)
    (s : Streams) (code : ℕ) : Type 0 where
  pub what : R
  pub hears : Hears said s.left_before s.left_after what
  pub output : List ℕ
  pub is_output : Out what output
  pub written : Appends s.taken_before s.taken_after output
  pub status : code ≡ code_of what

-- something is said of what was read, and a beginning of an output that it may have was written
pub record SaysInPart {R : Type 0} (said : List (Line (List ℕ)) → Option R) (Out : R → List ℕ → Type 0)
    (s : Streams) : Type 0 where
  pub what : R
  pub hears : Hears said s.left_before s.left_after what
  pub output : List ℕ
  pub is_output : Out what output
  pub written : Takes s.taken_before s.taken_after output

-- no byte of output was written
abbrev pub WritesNothing : Streams → Type 0
WritesNothing s = Appends s.taken_before s.taken_after []

-- What was read and written, by the result: with a status, a whole output of what is said; if writing failed, a
-- beginning of one; by any other halt nothing was written.
abbrev pub SaysSo : {R : Type 0} → (List (Line (List ℕ)) → Option R) → (R → List ℕ → Type 0) → (R → ℕ) → Streams →
    Result ExitStatus Halt → Type 0
SaysSo said Out code_of s (Ok status) = Says said Out code_of s status.code
SaysSo said Out code_of s (Err halts.Read) = HearsNothing said s.left_before s.left_after × WritesNothing s
SaysSo said Out code_of s (Err halts.Over) = HearsTooMuch said s.left_before s.left_after × WritesNothing s
SaysSo said Out code_of s (Err halts.NoMemory) = Reads s.left_before s.left_after × WritesNothing s
SaysSo said Out code_of s (Err halts.Write) = SaysInPart said Out s
SaysSo said Out code_of s (Err halts.Cut) = ⊥

-- What a status says of what was read and written: 0 or 9, a whole output; 4, a beginning of one; 3, 5 or 8, nothing
-- was written, as reading failed, memory ran out, or the input is too long.
pub record TellsOf {R : Type 0} (said : List (Line (List ℕ)) → Option R) (Out : R → List ℕ → Type 0) (code_of : R → ℕ)
    (s : Streams) (code : ℕ) : Type 0 where
  pub done : (code ≡ 0) ⊎ (code ≡ 9) → Says said Out code_of s code
  pub fault : code ≡ 3 → HearsNothing said s.left_before s.left_after × WritesNothing s
  pub sink : code ≡ 4 → SaysInPart said Out s
  pub memory : code ≡ 5 → Reads s.left_before s.left_after × WritesNothing s
  pub over : code ≡ 8 → HearsTooMuch said s.left_before s.left_after × WritesNothing s
