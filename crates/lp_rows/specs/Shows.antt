-- Which tableau of exact fractions the rows of whole numbers are.
use Rattle.std.specs.Prelude.{◌≡◌, ◌≢◌, ℕ, zero, suc, ◌+◌, ◌*◌, ◌<◌, ◌≤◌, List, [], ◌∷◌, length, get_or}
use Rattle.std.specs.Prelude.{None, false, All}
use Rattle.spec_exact.specs.Fraction.{ℚ, 0ℚ}
use Rattle.spec_model.specs.Kept.{row_limit, column_limit}
use Rattle.spec_pivot.specs.Tableau.{Matrix}
use Rattle.spec_pivot.specs.Simplex.{Bounds}
use Rattle.spec_pivot.specs.declared.status.Status.TheVariants.{Basic}
use Rattle.spec_simplex.specs.Tableau.{Tableau, form_columns, all_columns, entry_at, basic_at, value_at, reduced_at}
use Rattle.spec_simplex.specs.Tableau.{status_at, lower_at, upper_at, is_fixed, stand}
use Rattle.spec_simplex.specs.Tables.{IsTableauOf, IsWithinBounds}
use Rattle.lp_rows.specs.declared.fractions.Row.{Row}
use Rattle.lp_rows.specs.Row.{fraction_at}
use Rattle.lp_rows.specs.Ratio.{bound_of}
use Rattle.lp_rows.specs.declared.tableau.tableau.RowTableau.{RowTableau}

-- how many positions a tableau of integer rows has
abbrev pub height : {T : Type 0} → RowTableau T → ℕ
height r = length r.rows.items

-- how many structural and logical columns a tableau of integer rows has
abbrev pub width : {T : Type 0} → RowTableau T → ℕ
width r = r.cols + height r

-- how many columns a tableau of integer rows has: structural, logical and artificial ones
abbrev pub all_width : {T : Type 0} → RowTableau T → ℕ
all_width r = r.cols + height r + height r

-- a row has a number of each of n columns and one more, on a denominator that is not 0
pub record IsRow {T : Type 0} (value : T → ℕ) (n : ℕ) (row : Row T) : Type 0 where
  pub numbers : length row.numbers.items ≡ n + 1
  pub positive : 0 < value row.denominator

-- Each row and the costs have a number for each structural and logical column and one more, and each list one item for
-- each position or column. There are no more rows and columns than a usual model has, and no denominator is 0.
pub record IsWhole {T : Type 0} (value : T → ℕ) (r : RowTableau T) : Type 0 where
  pub few_rows : height r ≤ row_limit
  pub few_columns : r.cols ≤ column_limit
  pub each_row : All (IsRow value (width r)) r.rows.items
  pub costs : IsRow value (width r) r.costs
  pub all_basic : length r.basic.items ≡ height r
  pub in_range : All (λ k. k < all_width r) r.basic.items
  pub all_statuses : length r.status.items ≡ all_width r
  pub all_lower : length r.lower.items ≡ all_width r
  pub all_upper : length r.upper.items ≡ all_width r
  pub all_fixed : length r.fixed.items ≡ width r
  pub positive : 0 < value r.denominator

-- number k of row i as a fraction, over d times the row's own denominator; 0 where there is no such row or number
abbrev pub row_at : {T : Type 0} → (T → ℕ) → ℕ → List (Row T) → ℕ → ℕ → ℚ
row_at value d [] i k = 0ℚ
row_at value d (row ∷ rows) zero k = fraction_at value row.numbers.items (d * value row.denominator) k
row_at value d (row ∷ rows) (suc i) k = row_at value d rows i k

-- The tableau solves some equations for its basic columns, has the reduced costs of some costs, and has each value
-- within some bounds, as each tableau of a run by Bland's rule.
pub record IsReached (t : Tableau) : Type 0 where
  pub equations : Matrix
  pub cost : ℕ → ℚ
  pub bounds : Bounds
  pub tableau : IsTableauOf t.rows t.cols equations cost bounds t
  pub within : IsWithinBounds t.rows t.cols bounds t

-- The integer rows are the tableau t: they have its entries and reduced costs in structural and logical columns, its
-- basic values, basic columns, statuses and bounds. Each nonbasic column of t is at its bound.
pub record Shows {T : Type 0} (value : T → ℕ) (r : RowTableau T) (t : Tableau) : Type 0 where
  pub rows : height r ≡ t.rows
  pub cols : r.cols ≡ t.cols
  pub basic : r.basic.items ≡ t.basic
  pub status : r.status.items ≡ t.status
  pub entries : (i k : ℕ) → i < t.rows → k < form_columns t → entry_at t i k ≡ row_at value 1 r.rows.items i k
  pub values : (i : ℕ) → i < t.rows →
      value_at t (basic_at t i) ≡ row_at value (value r.denominator) r.rows.items i (form_columns t)
  pub reduced : (k : ℕ) → k < form_columns t →
      reduced_at t k ≡ fraction_at value r.costs.numbers.items (value r.costs.denominator) k
  pub lower : (k : ℕ) → k < all_columns t →
      lower_at t k ≡ bound_of value (value r.denominator) (get_or r.lower.items k None)
  pub upper : (k : ℕ) → k < all_columns t →
      upper_at t k ≡ bound_of value (value r.denominator) (get_or r.upper.items k None)
  pub fixed : (k : ℕ) → k < form_columns t → is_fixed (lower_at t k) (upper_at t k) ≡ get_or r.fixed.items k false
  pub stands : (k : ℕ) → k < all_columns t → status_at t k ≢ Basic →
      value_at t k ≡ stand (status_at t k) (lower_at t k) (upper_at t k)
