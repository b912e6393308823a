-- What holds of each model that is kept.
use Rattle.std.specs.Prelude.{ℕ, ◌≡◌, ◌<◌, ◌≤◌, ◌≢◌, ◌^◌, ◌&&◌, Bool, false, not, pos, List, ◌∷◌, length}
use Rattle.std.specs.Prelude.{map, nat_lt, nat_le, codes, All, AllPairs, IsTrue, Option, IfSome}
use Rattle.std.specs.List.{list_all, position}
use Rattle.spec_text.specs.Words.{same}
use Rattle.spec_exact.specs.Fraction.{ℚ, 0ℚ, whole, abs_ℚ, ◌<ℚ◌}
use Rattle.spec_exact.specs.Narrow.{IsNarrow}
use Rattle.spec_model.specs.declared.parts.Kind.{Kind}
use Rattle.spec_model.specs.declared.parts.SizeLimits.{SizeLimits}
use Rattle.spec_model.specs.Model.{Model, Name, ExactRow, ExactColumn, is_free}

-- the number 256: the most rows of a usual model
abbrev pub row_limit : ℕ
row_limit = 256

-- the number 512: the most columns of a usual model
abbrev pub column_limit : ℕ
column_limit = 512

-- the limits of a usual model, 256 rows and 512 columns, as sessions, forms and tableaus have them
abbrev pub usual_limits : SizeLimits
usual_limits = record { rows = row_limit; columns = column_limit }

-- the limits of each model that is kept: 65,536 rows and 131,072 columns
abbrev pub large_limits : SizeLimits
large_limits = record { rows = 65536; columns = 131072 }

-- the first size limits allow at most as many rows, and at most as many columns, as the second ones
pub record AreAtMost (few many : SizeLimits) : Type 0 where
  pub rows : few.rows ≤ many.rows
  pub columns : few.columns ≤ many.columns

-- a model has no more rows and columns than the limits say
pub record IsWithin (limits : SizeLimits) (m : Model) : Type 0 where
  pub few_rows : length m.rows ≤ limits.rows
  pub few_columns : length m.columns ≤ limits.columns

-- a model has at most 256 rows and 512 columns, as many as a session may hold
abbrev pub IsUsual : Model → Type 0
IsUsual m = IsWithin usual_limits m

-- whether a byte is a printed ASCII character and no blank: it is from 33 to 126
abbrev pub is_printable : ℕ → Bool
is_printable b = nat_le 33 b && nat_le b 126

-- whether bytes may name a column: they are 1 to 64 printable ones
unfoldable pub is_name : Name → Bool
is_name bytes = nat_lt 0 (length bytes) && nat_le (length bytes) 64 && list_all is_printable bytes

-- whether bytes may name a row or the objective: they are a name, and not the word 'MARKER', with which texts set
-- integer columns apart
unfoldable pub is_row_name : Name → Bool
is_row_name bytes = is_name bytes && not (same bytes (codes "'MARKER'"))

-- whether bytes may name a model: they are at most 64 printable ones, or none
unfoldable pub is_model_name : Name → Bool
is_model_name bytes = nat_le (length bytes) 64 && list_all is_printable bytes

-- the names of the rows, in order
abbrev pub row_names : Model → List Name
row_names m = map (λ r. r.name) m.rows

-- the names of the columns, in order
abbrev pub column_names : Model → List Name
column_names m = map (λ c. c.name) m.columns

-- the number of the first row with a name; none where no row has it
unfoldable pub row_place : Model → Name → Option ℕ
row_place m name = position (λ r. same r.name name) m.rows

-- the number of the first column with a name; none where no column has it
unfoldable pub column_place : Model → Name → Option ℕ
column_place m name = position (λ c. same c.name name) m.columns

-- the entries are of the first n rows, at most one of each row, in the order of their rows, and none is 0
pub record AreEntries (n : ℕ) (entries : List (ℕ × ℚ)) : Type 0 where
  pub inside : All (λ e. e.0 < n) entries
  pub ascending : AllPairs (λ d e. d.0 < e.0) entries
  pub not_zero : All (λ e. e.1 ≢ 0ℚ) entries

-- a bound, if it is there, is less than 10 ^ 20 from 0
abbrev pub IsBound : Option ℚ → Type 0
IsBound bound = IfSome bound (λ b. abs_ℚ b <ℚ whole (pos (10 ^ 20)))

-- What a column of a kept model with so many rows has, but for the bits of its numbers: its name is valid, its bounds
-- are less than 10 ^ 20 from 0, and its entries are of these rows, at most one of each, in their order, and not 0.
pub record IsKeptColumn (height : ℕ) (c : ExactColumn) : Type 0 where
  pub name : IsTrue (is_name c.name)
  pub lower : IsBound c.lower
  pub upper : IsBound c.upper
  pub entries : AreEntries height c.entries

-- if there is a range, the row is not free
abbrev pub FitsKind : Kind → Option ℚ → Type 0
FitsKind kind range = IfSome range (λ r. is_free kind ≡ false)

-- the row's right side, and its range if it has one, have at most 127 bits in numerator and denominator
pub record IsNarrowRow (r : ExactRow) : Type 0 where
  pub rhs : IsNarrow r.rhs
  pub range : IfSome r.range IsNarrow

-- the column's cost, bounds and coefficients have at most 127 bits in numerator and denominator
pub record IsNarrowColumn (c : ExactColumn) : Type 0 where
  pub cost : IsNarrow c.cost
  pub lower : IfSome c.lower IsNarrow
  pub upper : IfSome c.upper IsNarrow
  pub entries : All (λ e. IsNarrow e.1) c.entries

-- The model may be kept, and is within these limits of size. Its names are valid: no two columns have one name, nor two
-- of the rows and the objective. Free rows have no range, each column is as `IsKeptColumn` says, and its numbers have
-- at most 127 bits.
pub record IsModelWithin (limits : SizeLimits) (m : Model) : Type 0 where
  pub few : IsWithin limits m
  pub name : IsTrue (is_model_name m.name)
  pub objective : IsTrue (is_row_name m.objective)
  pub rows : All (λ r. IsTrue (is_row_name r.name)) m.rows
  pub ranges : All (λ r. FitsKind r.kind r.range) m.rows
  pub columns : All (IsKeptColumn (length m.rows)) m.columns
  pub rows_distinct : AllPairs (λ x y. x ≢ y) (m.objective ∷ row_names m)
  pub columns_distinct : AllPairs (λ x y. x ≢ y) (column_names m)
  pub offset : IsNarrow m.offset
  pub narrow_rows : All IsNarrowRow m.rows
  pub narrow_columns : All IsNarrowColumn m.columns

-- the model may be kept, and is within the large limits
abbrev pub IsModel : Model → Type 0
IsModel m = IsModelWithin large_limits m

-- a model that sessions may hold: it is kept, and usual
abbrev pub IsUsualModel : Model → Type 0
IsUsualModel m = IsModel m × IsUsual m
