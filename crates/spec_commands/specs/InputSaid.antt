-- What is said of the bytes that were read, by what lines say.
use Rattle.std.specs.Prelude.{ℕ, ◌≡◌, ◌≤◌, ◌⊎◌, Option, Some, None, List, [], ◌∷◌, ◌++◌, length, take}
use Rattle.std.specs.Io.KnownBytes.{IsAtEnd}
use Rattle.spec_text.specs.declared.line.Line.{Line}
use Rattle.spec_text.specs.declared.line.Line.TheVariants.{End}
use Rattle.spec_text.specs.Lines.{lines_of, ended_lines_of, input_limit}

-- this is said of the bytes that were read, whatever bytes follow: their lines within the limit of an input decide it
abbrev pub IsSaidEarly : {R : Type 0} → (List (Line (List ℕ)) → Option R) → List ℕ → R → Type 0
IsSaidEarly said read what = (more : List ℕ) → said (ended_lines_of (take input_limit (read ++ more))) ≡ Some what

-- This is said of all lines of the bytes that were read and the end behind them. These bytes are no more than an input
-- may have, and `after` says that the input ends there.
pub record IsSaidAtEnd {R : Type 0} (said : List (Line (List ℕ)) → Option R) (after : Option (List ℕ)) (read : List ℕ)
    (what : R) : Type 0 where
  pub all : said (lines_of read ++ End ∷ []) ≡ Some what
  pub within : length read ≤ input_limit
  pub at_end : IsAtEnd after

-- this is said of the bytes that were read, before the end of the input or at it
abbrev pub IsSaid : {R : Type 0} → (List (Line (List ℕ)) → Option R) → Option (List ℕ) → List ℕ → R → Type 0
IsSaid said after read what = IsSaidEarly said read what ⊎ IsSaidAtEnd said after read what

-- the lines that end among these bytes, within the limit of an input, do not decide what is said
abbrev pub IsUndecided : {R : Type 0} → (List (Line (List ℕ)) → Option R) → List ℕ → Type 0
IsUndecided said read = said (ended_lines_of (take input_limit read)) ≡ None
