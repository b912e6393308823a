-- Models that are made from a number, the seed: each number of a model is drawn at a state that follows from the seed.
use Rattle.std.specs.Prelude.{ℕ, zero, suc, pos, ◌+◌, ◌%◌, ◌==◌, ◌++◌, Some, None}
use Rattle.std.specs.Prelude.{Bool, List, [], ◌∷◌, map, codes, decimal, if◌then◌else◌}
use Rattle.std.specs.List.{range_with_len}
use Rattle.spec_exact.specs.Fraction.{ℚ, 0ℚ, whole}
use Rattle.spec_model.specs.declared.parts.Sense.TheVariants.{Max}
use Rattle.spec_model.specs.declared.parts.Kind.TheVariants.{L}
use Rattle.spec_model.specs.Model.{Model, Name, ExactRow, ExactColumn}
use Rattle.spec_commands.specs.Draws.{next, draw, after}

-- the number that is drawn at state s among `many` whole numbers from `least` on
abbrev pub number_from : ℕ → ℕ → ℕ → ℚ
number_from least many s = whole (pos (least + draw s % many))

-- the name of row i, where i counts from 0: `R` and the number i + 1
unfoldable pub row_name : ℕ → Name
row_name i = codes "R" ++ decimal (i + 1)

-- the name of column j, where j counts from 0: `C` and the number j + 1
unfoldable pub column_name : ℕ → Name
column_name j = codes "C" ++ decimal (j + 1)

-- ---- the entries of a column, drawn row by row

-- whether a column has an entry in a row, by the draw at state s: in about one row of three it does
unfoldable pub has_entry : ℕ → Bool
has_entry s = draw s % 3 == 0

-- the state after the draws for one entry that begin at state s: two draws if there is an entry, else one
abbrev pub after_entry : ℕ → ℕ
after_entry s = if has_entry s then next (next s) else next s

-- the state after the draws for the first i rows of a column, where s is the state before them
unfoldable pub at_row : ℕ → ℕ → ℕ
at_row s zero = s
at_row s (suc i) = after_entry (at_row s i)

-- the list of a column's entry in row i, whose draws begin at state s; empty where it has none
unfoldable pub entry : ℕ → ℕ → List (ℕ × ℚ)
entry i s = if has_entry s then (i, number_from 1 9 (next s)) ∷ [] else []

-- a column's entries in the first n rows, whose draws begin at state s
unfoldable pub entries : ℕ → ℕ → List (ℕ × ℚ)
entries s zero = []
entries s (suc n) = entries s n ++ entry n (at_row s n)

-- ---- columns and rows

-- column j of a model with so many rows, whose draws begin at state s: its cost from 1 to 9, its upper bound from 1 to
-- 20, and then its entries; its lower bound is 0
unfoldable pub generated_column : ℕ → ℕ → ℕ → ExactColumn
generated_column rows j s = record {
  name = column_name j;
  cost = number_from 1 9 s;
  lower = Some 0ℚ;
  upper = Some (number_from 1 20 (next s));
  entries = entries (after 2 s) rows;
}

-- the state after the draws for the first j columns of a model with so many rows, which begin at the seed
unfoldable pub at_column : ℕ → ℕ → ℕ → ℕ
at_column rows seed zero = seed
at_column rows seed (suc j) = at_row (after 2 (at_column rows seed j)) rows

-- row i, of kind `L`, whose right side from 10 to 99 is drawn at state s
unfoldable pub generated_row : ℕ → ℕ → ExactRow
generated_row i s = record { name = row_name i; kind = L; rhs = number_from 10 90 s; range = None }

-- the columns of a generated model, whose draws begin at the seed, one after the other
unfoldable pub generated_columns : ℕ → ℕ → ℕ → List ExactColumn
generated_columns seed rows columns =
    map (λ j. generated_column rows j (at_column rows seed j)) (range_with_len 0 columns)

-- the rows of a generated model, whose right sides are drawn from state s on, one after the other
unfoldable pub generated_rows : ℕ → ℕ → List ExactRow
generated_rows s rows = map (λ i. generated_row i (after i s)) (range_with_len 0 rows)

-- the model that is made from a seed, with so many rows and columns, whose objective is maximised: first its columns
-- are drawn, then the right sides
unfoldable pub generated : ℕ → ℕ → ℕ → Model
generated seed rows columns = record {
  name = codes "gen";
  sense = Max;
  objective = codes "cost";
  offset = 0ℚ;
  rows = generated_rows (at_column rows seed columns) rows;
  columns = generated_columns seed rows columns;
}
