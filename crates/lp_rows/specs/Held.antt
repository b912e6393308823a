-- Rows of whole numbers for lists of fractions, and the whole numbers alone.
use Rattle.std.specs.Prelude.{◌≡◌, ℕ, ◌+◌, ◌*◌, ◌<◌, ℤ, List, length, get_or, map, Option, option_map, All}
use Rattle.spec_exact.specs.Fraction.{ℚ, 0ℚ}
use Rattle.spec_exact.specs.Run.{made}
use Rattle.spec_simplex.specs.Tableau.{Tableau, form_columns, all_columns, entry_at, basic_at, value_at, reduced_at}
use Rattle.spec_simplex.specs.Tableau.{status_at, lower_at, upper_at, is_fixed}
use Rattle.lp_rows.specs.Ratio.{bound_of}
use Rattle.lp_natural.specs.Whole.{whole}
use Rattle.lp_natural.specs.declared.words.signed.Signed.{Signed}
use Rattle.lp_rows.specs.declared.fractions.Row.{Row}
use Rattle.lp_rows.specs.Row.{fraction_at}
use Rattle.lp_rows.specs.declared.tableau.parts.Bounds.{Bounds}
use Rattle.lp_rows.specs.declared.tableau.parts.Standing.{Standing}
use Rattle.lp_rows.specs.declared.tableau.tableau.RowTableau.{RowTableau}
use Rattle.lp_rows.specs.Shows.{IsRow, row_at}

-- ---- rows of fractions

-- the row of whole numbers is this list of fractions on its own denominator, and behind them this value,
-- on d times that
pub record IsRowOf {T : Type 0} (value : T → ℕ) (list : List ℚ) (last : ℚ) (d : ℕ) (row : Row T) : Type 0 where
  pub is_row : IsRow value (length list) row
  pub entries : (k : ℕ) → k < length list →
      fraction_at value row.numbers.items (value row.denominator) k ≡ get_or list k 0ℚ
  pub value_last : fraction_at value row.numbers.items (d * value row.denominator) (length list) ≡ last

-- the whole numbers are this list of fractions on the denominator `own`, and behind them this value on `both`
pub record IsRowWith {T : Type 0} (value : T → ℕ) (list : List ℚ) (last : ℚ) (own both : ℕ)
    (numbers : List (Signed T)) :
    Type 0 where
  pub len : length numbers ≡ length list + 1
  pub entries : (k : ℕ) → k < length list → fraction_at value numbers own k ≡ get_or list k 0ℚ
  pub value_last : fraction_at value numbers both (length list) ≡ last

-- the rows are those of the first h positions of a tableau, with the values of their basic columns
pub record AreRowsOf {T : Type 0} (value : T → ℕ) (t : Tableau) (d h : ℕ) (rows : List (Row T)) : Type 0 where
  pub len : length rows ≡ h
  pub each : All (IsRow value (form_columns t)) rows
  pub entries : (i k : ℕ) → i < h → k < form_columns t → row_at value 1 rows i k ≡ entry_at t i k
  pub values : (i : ℕ) → i < h → row_at value d rows i (form_columns t) ≡ value_at t (basic_at t i)

-- the whole numbers over their denominator are these lower and upper bounds, with none where these have none
pub record AreBounds {T : Type 0} (value : T → ℕ) (lower upper : List (Option ℚ)) (b : Bounds T) : Type 0 where
  pub below : map (bound_of value (value b.denominator)) b.lower.items ≡ lower
  pub above : map (bound_of value (value b.denominator)) b.upper.items ≡ upper
  pub positive : 0 < value b.denominator

-- the lists say the basic columns and the statuses of a tableau,
-- and which structural and logical columns are fixed in it
pub record AreStandings (t : Tableau) (s : Standing) : Type 0 where
  pub basic : s.basic.items ≡ made t.rows (basic_at t)
  pub status : s.status.items ≡ made (all_columns t) (status_at t)
  pub fixed : s.fixed.items ≡ made (form_columns t) (λ k. is_fixed (lower_at t k) (upper_at t k))

-- the tableau of integer rows has the entries, values, reduced costs, basic columns,
-- statuses and bounds of the tableau t
pub record HoldsParts {T : Type 0} (value : T → ℕ) (t : Tableau) (r : RowTableau T) : Type 0 where
  pub cols : r.cols ≡ t.cols
  pub rows : AreRowsOf value t (value r.denominator) t.rows r.rows.items
  pub costs : IsRowOf value (made (form_columns t) (reduced_at t)) 0ℚ (value r.denominator) r.costs
  pub basic : r.basic.items ≡ made t.rows (basic_at t)
  pub status : r.status.items ≡ made (all_columns t) (status_at t)
  pub lower : map (bound_of value (value r.denominator)) r.lower.items ≡ made (all_columns t) (lower_at t)
  pub upper : map (bound_of value (value r.denominator)) r.upper.items ≡ made (all_columns t) (upper_at t)
  pub fixed : r.fixed.items ≡ made (form_columns t) (λ k. is_fixed (lower_at t k) (upper_at t k))
  pub positive : 0 < value r.denominator

-- ---- whole numbers

-- a sign and a magnitude as a whole number
abbrev pub whole_of : {T : Type 0} → (T → ℕ) → Signed T → ℤ
whole_of value n = whole n.negative (value n.size)

-- the whole numbers of a list of numbers with a sign and a magnitude
abbrev pub wholes : {T : Type 0} → (T → ℕ) → List (Signed T) → List ℤ
wholes value ns = map (whole_of value) ns

-- the bounds of a list, as whole numbers where they are there
abbrev pub whole_bounds : {T : Type 0} → (T → ℕ) → List (Option (Signed T)) → List (Option ℤ)
whole_bounds value bounds = map (option_map (whole_of value)) bounds

-- the numbers of a row, and its denominator
abbrev pub whole_row : {T : Type 0} → (T → ℕ) → Row T → List ℤ × ℕ
whole_row value row = (wholes value row.numbers.items, value row.denominator)

-- an integer-row tableau and bounds in another word type have the same bounds, over one denominator
pub record AreSameBounds {T U : Type 0} (value : T → ℕ) (wide : U → ℕ) (r : RowTableau T) (b : Bounds U) : Type 0 where
  pub lower : whole_bounds wide b.lower.items ≡ whole_bounds value r.lower.items
  pub upper : whole_bounds wide b.upper.items ≡ whole_bounds value r.upper.items
  pub denominator : wide b.denominator ≡ value r.denominator

-- two integer-row tableaus of different word types have the same numbers
pub record AreSameNumbers {T U : Type 0} (value : T → ℕ) (wide : U → ℕ) (r : RowTableau T) (s : RowTableau U) :
    Type 0 where
  pub cols : s.cols ≡ r.cols
  pub rows : map (whole_row wide) s.rows.items ≡ map (whole_row value) r.rows.items
  pub costs : whole_row wide s.costs ≡ whole_row value r.costs
  pub basic : s.basic.items ≡ r.basic.items
  pub status : s.status.items ≡ r.status.items
  pub lower : whole_bounds wide s.lower.items ≡ whole_bounds value r.lower.items
  pub upper : whole_bounds wide s.upper.items ≡ whole_bounds value r.upper.items
  pub fixed : s.fixed.items ≡ r.fixed.items
  pub denominator : wide s.denominator ≡ value r.denominator
