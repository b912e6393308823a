-- Tables of words, as they are held.
use Rattle.std.specs.Prelude.{ℕ, Option, Some, None, List, [], ◌∷◌, if◌then◌else◌}
use Rattle.spec_text.specs.Words.{same}
use denote.Ref.{Bor}

-- the value of the first line of a table that has this word; none where no line has it
abbrev pub beside : {A : Type 0} → List ℕ → List (Bor (List ℕ) × A) → Option A
beside word [] = None
beside word (line ∷ lines) = if same word line.0.now then Some line.1 else beside word lines
