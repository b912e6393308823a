-- The lines of a text. A text is a list of bytes.
use Rattle.std.specs.Prelude.{ℕ, ◌++◌, ◌≡◌, ◌==◌, List, [], ◌∷◌, length, map, nat_lt, if◌then◌else◌}
use Rattle.std.specs.List.{slice_split}
use Rattle.std.specs.Str.Lines.{lines, strip_carriage_return}
use Rattle.spec_text.specs.declared.line.Line.{Line}
use Rattle.spec_text.specs.declared.line.Line.TheVariants.{Text, Long}

-- the number 16,384: the most bytes of a line that is kept
abbrev pub line_limit : ℕ
line_limit = 16384

-- the number 67,108,864, which is 2 ^ 26: the most bytes of an input whose lines are read
abbrev pub input_limit : ℕ
input_limit = 67108864

-- the line with these bytes: the bytes, or only their number where the line is too long to be kept
unfoldable pub line_of : List ℕ → Line (List ℕ)
line_of bytes = if nat_lt line_limit (length bytes) then Long (length bytes) else Text bytes

-- The lines of an input, in order; of a line of more than 16,384 bytes its length alone. A line ends at a line feed,
-- and loses one carriage return before it. What follows the last line feed, or all bytes where there is none, is a
-- line too, unless it is empty; it keeps a carriage return at its end.
unfoldable pub lines_of : List ℕ → List (Line (List ℕ))
lines_of input = map line_of (lines input)

-- the items of a list before its last one
abbrev pub all_but_last : List (List ℕ) → List (List ℕ)
all_but_last [] = []
all_but_last (x ∷ []) = []
all_but_last (x ∷ y ∷ more) = x ∷ all_but_last (y ∷ more)

-- the lines of an input that a line feed ends, in order, each without one carriage return before it; of a line of more
-- than 16,384 bytes its length alone
unfoldable pub ended_lines_of : List ℕ → List (Line (List ℕ))
ended_lines_of input =
    map (λ line. line_of (strip_carriage_return line)) (all_but_last (slice_split (λ b. b == 10) input))

-- the second list begins with the first one
abbrev pub IsPrefixOf : List ℕ → List ℕ → Type 0
IsPrefixOf xs ys = (rest : List ℕ) × (xs ++ rest ≡ ys)
