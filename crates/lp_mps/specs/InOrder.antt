-- A column whose entries stand as its cards gave them, with its entries in the order of their rows.
use Rattle.std.specs.Prelude.{ℕ, List, [], ◌∷◌}
use Rattle.spec_exact.specs.Fraction.{ℚ}
use Rattle.spec_model.specs.Model.{ExactColumn}
use Rattle.spec_mps.specs.Reader.{put_entry}

-- the list `placed`, which is in the order of rows, with these entries inserted one by one, each at its row's place
abbrev pub put_all : List (ℕ × ℚ) → List (ℕ × ℚ) → List (ℕ × ℚ)
put_all placed [] = placed
put_all placed (e ∷ es) = put_all (put_entry e.0 e.1 placed) es

-- the entries in the order of their rows; of two of one row, the first stays the first
abbrev pub in_order : List (ℕ × ℚ) → List (ℕ × ℚ)
in_order es = put_all [] es

-- the column with its entries in the order of their rows
abbrev pub ordered : ExactColumn → ExactColumn
ordered c = record c { entries = in_order c.entries }
