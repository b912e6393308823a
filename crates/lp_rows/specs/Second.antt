-- What the second phase begins with.
use Rattle.std.specs.Prelude.{◌≡◌, ℕ, ◌<◌, ◌≤◌, List, length, get_or, Option, Some, None, nat_lt, if◌then◌else◌}
use Rattle.spec_exact.specs.Fraction.{ℚ, 0ℚ, ◌-ℚ◌, ◌*ℚ◌}
use Rattle.spec_exact.specs.Sums.{sum_below}
use Rattle.spec_pivot.specs.Tableau.{IsUnit}
use Rattle.spec_simplex.specs.Tableau.{Tableau, entry_at, basic_at}
use Rattle.lp_natural.specs.declared.words.signed.Signed.{Signed}
use Rattle.lp_rows.specs.declared.fractions.Row.{Row}
use Rattle.lp_rows.specs.Row.{fraction_at}
use Rattle.lp_rows.specs.Ratio.{bound_of}
use Rattle.lp_rows.specs.declared.tableau.tableau.RowTableau.{RowTableau}
use Rattle.lp_rows.specs.Shows.{IsRow, Shows, row_at, width}

-- ---- costs

-- the number of column k of a row, as a fraction
abbrev pub fraction_of : {T : Type 0} → (T → ℕ) → Row T → ℕ → ℚ
fraction_of value row k = fraction_at value row.numbers.items (value row.denominator) k

-- the number of column k of a row, as a fraction, and 0 from column n on
abbrev pub cost_in : {T : Type 0} → (T → ℕ) → ℕ → Row T → ℕ → ℚ
cost_in value n row k = if nat_lt k n then fraction_of value row k else 0ℚ

-- the costs `new` are `old` less the row of position i times old's cost of the basic column there, which is 0 where
-- that is artificial
pub record IsLess {T : Type 0} (value : T → ℕ) (r : RowTableau T) (i : ℕ) (old new : Row T) : Type 0 where
  pub row : IsRow value (width r) new
  pub less : (k : ℕ) → k < width r →
      fraction_of value new k ≡
      fraction_of value old k -ℚ cost_in value (width r) old
      (get_or r.basic.items i 0) *ℚ row_at value 1 r.rows.items i k

-- The new costs are the old ones less the rows of the first n positions, each row times the old cost of its basic
-- column. So it is where the rows show a tableau in which each basic column has an entry in its own row alone.
pub record IsLessRows {T : Type 0} (value : T → ℕ) (r : RowTableau T) (n : ℕ) (old new : Row T) : Type 0 where
  pub row : IsRow value (width r) new
  pub less : (t : Tableau) → IsUnit t.rows (entry_at t) (basic_at t) → Shows value r t → (cost : ℕ → ℚ) →
      ((k : ℕ) → k < width r → fraction_of value old k ≡ cost k) → ((k : ℕ) → width r ≤ k → cost k ≡ 0ℚ) →
      (k : ℕ) → k < width r →
      fraction_of value new k ≡ cost k -ℚ sum_below n (λ i. cost (basic_at t i) *ℚ entry_at t i k)

-- The row has the reduced costs for these costs, in the structural and the logical columns. So it is where the
-- tableau's rows show one in which each basic column has an entry in its own row alone.
pub record IsPricedRow {T : Type 0} (value : T → ℕ) (r : RowTableau T) (costs : List ℚ) (row : Row T) : Type 0 where
  pub is_row : IsRow value (width r) row
  pub less : (t : Tableau) → IsUnit t.rows (entry_at t) (basic_at t) → Shows value r t → (k : ℕ) → k < width r →
      fraction_of value row k ≡
      get_or costs k 0ℚ -ℚ sum_below t.rows (λ i. get_or costs (basic_at t i) 0ℚ *ℚ entry_at t i k)

-- ---- bounds

-- the bounds `new` are `old` in the columns before n, and 0 in those from n on that are below m
pub record AreZeroed {T : Type 0} (value : T → ℕ) (n m : ℕ) (old new : List (Option (Signed T))) : Type 0 where
  pub len : length new ≡ length old
  pub before : (k : ℕ) → k < n → get_or new k None ≡ get_or old k None
  pub zero : (k : ℕ) → n ≤ k → k < m → (d : ℕ) → 0 < d → bound_of value d (get_or new k None) ≡ Some 0ℚ

-- the tableau `new` is `old` with these reduced costs, and with 0 as both bounds of each artificial column
pub record IsBegun {T : Type 0} (value : T → ℕ) (old : RowTableau T) (costs : Row T) (new : RowTableau T) : Type 0 where
  pub cols : new.cols ≡ old.cols
  pub rows : new.rows ≡ old.rows
  pub reduced : new.costs ≡ costs
  pub basic : new.basic ≡ old.basic
  pub status : new.status ≡ old.status
  pub lower : AreZeroed value (width old) (length old.lower.items) old.lower.items new.lower.items
  pub upper : AreZeroed value (width old) (length old.upper.items) old.upper.items new.upper.items
  pub fixed : new.fixed ≡ old.fixed
  pub denominator : new.denominator ≡ old.denominator
