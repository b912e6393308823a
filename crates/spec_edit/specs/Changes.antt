-- Changes of a model, by the numbers of its rows and columns. What is not named stays.
use Rattle.std.specs.Prelude.{ℕ, ◌-◌, ◌==◌, not, Option, List, [], ◌∷◌, ◌++◌, map, nat_lt, slice_set, if◌then◌else◌}
use Rattle.std.specs.List.{filter, remove}
use Rattle.spec_exact.specs.Fraction.{ℚ, 0ℚ, eq_ℚ}
use Rattle.spec_model.specs.declared.parts.Sense.{Sense}
use Rattle.spec_model.specs.Model.{Model, Limits, ExactRow, ExactColumn, row, column}

-- ---- rows and columns

-- the model with one more row, which goes last and in which no column has a coefficient yet
abbrev pub with_row : Model → ExactRow → Model
with_row m r = record m { rows = m.rows ++ r ∷ [] }

-- the model with one more column, which goes last
abbrev pub with_column : Model → ExactColumn → Model
with_column m c = record m { columns = m.columns ++ c ∷ [] }

-- the model in which row i is changed by a function; the model as it is, where it has no row i
abbrev pub changed_row : (ExactRow → ExactRow) → Model → ℕ → Model
changed_row change m i = record m { rows = slice_set m.rows i (change (row m i)) }

-- the model in which column j is changed by a function; the model as it is, where it has no column j
abbrev pub changed_column : (ExactColumn → ExactColumn) → Model → ℕ → Model
changed_column change m j = record m { columns = slice_set m.columns j (change (column m j)) }

-- ---- entries of a column, which stand in the order of their rows

-- the list of the entry v in row i alone; an empty list where v is 0
abbrev pub entry_if : ℕ → ℚ → List (ℕ × ℚ)
entry_if i v = if eq_ℚ v 0ℚ then [] else (i, v) ∷ []

-- The entries, which stand in the order of rows, once the one in row i is v: in the same order, and v takes the place
-- of one that was there. Where v is 0, row i has none.
unfoldable pub with_entry : ℕ → ℚ → List (ℕ × ℚ) → List (ℕ × ℚ)
with_entry i v entries = filter (λ e. nat_lt e.0 i) entries ++ entry_if i v ++ filter (λ e. nat_lt i e.0) entries

-- the number that row k has once row i is removed: one less if it stands behind row i, else the same
abbrev pub renumbered : ℕ → ℕ → ℕ
renumbered i k = if nat_lt i k then k - 1 else k

-- a column's entries once row i is removed: without that of row i, and with the rows behind it numbered anew
unfoldable pub without_entry : ℕ → List (ℕ × ℚ) → List (ℕ × ℚ)
without_entry i entries = map (λ e. (renumbered i e.0, e.1)) (filter (λ e. not (e.0 == i)) entries)

-- ---- changes

-- the model without row i and the coefficients in it; the numbers of the rows behind it are one less then
abbrev pub without_row : Model → ℕ → Model
without_row m i =
    record m {
      rows = remove m.rows i;
      columns = map (λ (c : ExactColumn). record c { entries = without_entry i c.entries }) m.columns;
    }

-- the model without column j; the numbers of the columns behind it are one less then
abbrev pub without_column : Model → ℕ → Model
without_column m j = record m { columns = remove m.columns j }

-- the model in which column j has the cost v
abbrev pub with_cost : Model → ℕ → ℚ → Model
with_cost m j v = changed_column (λ (c : ExactColumn). record c { cost = v }) m j

-- the model in which column j has the coefficient v in row i
abbrev pub with_coefficient : Model → ℕ → ℕ → ℚ → Model
with_coefficient m i j v = changed_column (λ (c : ExactColumn). record c { entries = with_entry i v c.entries }) m j

-- the model in which column j has these bounds in place of both of its own; where one is absent, it has none there
abbrev pub with_bounds : Model → ℕ → Limits → Model
with_bounds m j l = changed_column (λ (c : ExactColumn). record c { lower = l.lower; upper = l.upper }) m j

-- the model in which row i has the right side v
abbrev pub with_rhs : Model → ℕ → ℚ → Model
with_rhs m i v = changed_row (λ (r : ExactRow). record r { rhs = v }) m i

-- the model in which row i has this range, or no range where none is given
abbrev pub with_range : Model → ℕ → Option ℚ → Model
with_range m i range = changed_row (λ (r : ExactRow). record r { range = range }) m i

-- the model whose objective has the constant v
abbrev pub with_offset : Model → ℚ → Model
with_offset m v = record m { offset = v }

-- the model whose objective has this sense
abbrev pub with_sense : Model → Sense → Model
with_sense m sense = record m { sense = sense }
