-- A tableau: for each position a basic column and a row, for each column its value, its reduced cost, its status and
-- its bounds.
--
-- The columns are those of the form and then an artificial for each row. A row t of the tableau says that the sum of
-- t_k x_k over all columns is 0; it has 1 at its own basic column and 0 at those of the other positions.
use Rattle.std.specs.Prelude.{◌≡◌, ℕ, ◌+◌, ◌<◌, ◌≤◌, List, [], length, get_or}
use Rattle.std.specs.Prelude.{Option, Some, None, Bool, true, false, nat_le, All}
use Rattle.spec_exact.specs.Fraction.{ℚ, 0ℚ, eq_ℚ}
use Rattle.spec_model.specs.Kept.{row_limit, column_limit}
use Rattle.spec_pivot.specs.declared.status.Status.{Status}
use Rattle.spec_pivot.specs.declared.status.Status.TheVariants.{Basic, AtLower, AtUpper, AtZero}

-- the equations of a form solved for the basic columns: a row for each position, and a value, a reduced cost, a status
-- and two bounds for each column
pub record Tableau : Type 0 where
  pub rows : ℕ
  pub cols : ℕ  -- the structural ones
  pub entries : List (List ℚ)  -- of each position, a row over all columns
  pub basic : List ℕ  -- of each position, its column
  pub value : List ℚ  -- of each column, as all that follows
  pub reduced : List ℚ
  pub status : List Status
  pub lower : List (Option ℚ)
  pub upper : List (Option ℚ)

-- how many columns of a tableau are the form's: structural and logical ones
abbrev pub form_columns : Tableau → ℕ
form_columns t = t.cols + t.rows

-- how many columns a tableau has: structural, logical and artificial ones
abbrev pub all_columns : Tableau → ℕ
all_columns t = t.cols + t.rows + t.rows

-- whether column k of a tableau is artificial: whether it comes after all structural and logical ones
abbrev pub is_artificial : Tableau → ℕ → Bool
is_artificial t k = nat_le (form_columns t) k

-- ---- by the numbers of positions and columns

-- the number in row i and column k of these rows, and 0 past the rows or past the end of row i
abbrev pub at_place : List (List ℚ) → ℕ → ℕ → ℚ
at_place rows i k = get_or (get_or rows i []) k 0ℚ

-- the entry of position i in column k of the tableau, and 0 past its rows or columns
abbrev pub entry_at : Tableau → ℕ → ℕ → ℚ
entry_at t i k = at_place t.entries i k

-- the basic column of position i, and 0 past the positions
abbrev pub basic_at : Tableau → ℕ → ℕ
basic_at t i = get_or t.basic i 0

-- the value of column k of the tableau, basic or not, and 0 past its columns
abbrev pub value_at : Tableau → ℕ → ℚ
value_at t k = get_or t.value k 0ℚ

-- the reduced cost of column k of the tableau, and 0 past its columns
abbrev pub reduced_at : Tableau → ℕ → ℚ
reduced_at t k = get_or t.reduced k 0ℚ

-- the status of column k, and `Basic` past the columns
abbrev pub status_at : Tableau → ℕ → Status
status_at t k = get_or t.status k Basic

-- the lower bound of column k of the tableau; none where it is absent
abbrev pub lower_at : Tableau → ℕ → Option ℚ
lower_at t k = get_or t.lower k None

-- the upper bound of column k of the tableau; none where it is absent
abbrev pub upper_at : Tableau → ℕ → Option ℚ
upper_at t k = get_or t.upper k None

-- whether a status is `Basic`
abbrev pub is_basic : Status → Bool
is_basic Basic = true
is_basic AtLower = false
is_basic AtUpper = false
is_basic AtZero = false

-- whether a column has both bounds, and they are equal
abbrev pub is_fixed : Option ℚ → Option ℚ → Bool
is_fixed None upper = false
is_fixed (Some l) None = false
is_fixed (Some l) (Some u) = eq_ℚ l u

-- the bound, or 0 where it is absent
abbrev pub or_zero : Option ℚ → ℚ
or_zero None = 0ℚ
or_zero (Some v) = v

-- the value that a status and two bounds give a nonbasic column: the lower bound for `AtLower`, the upper one for
-- `AtUpper`, and 0 for `AtZero` or an absent bound; 0 for a basic column
abbrev pub stand : Status → Option ℚ → Option ℚ → ℚ
stand Basic lower upper = 0ℚ
stand AtLower lower upper = or_zero lower
stand AtUpper lower upper = or_zero upper
stand AtZero lower upper = 0ℚ

-- each list of t has an item for each of its positions or columns, and each of its rows an entry for each column; its
-- basic columns are columns of t; and t has at most as many rows and structural columns as a usual model
pub record IsTableauShape (t : Tableau) : Type 0 where
  pub few_rows : t.rows ≤ row_limit
  pub few_columns : t.cols ≤ column_limit
  pub all_rows : length t.entries ≡ t.rows
  pub whole_rows : All (λ row. length row ≡ all_columns t) t.entries
  pub all_basic : length t.basic ≡ t.rows
  pub in_range : All (λ k. k < all_columns t) t.basic
  pub all_values : length t.value ≡ all_columns t
  pub all_reduced : length t.reduced ≡ all_columns t
  pub all_statuses : length t.status ≡ all_columns t
  pub all_lower : length t.lower ≡ all_columns t
  pub all_upper : length t.upper ≡ all_columns t
