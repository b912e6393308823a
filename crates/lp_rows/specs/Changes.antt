-- A tableau of rows before and after a flip, and before and after a pivot.
use Rattle.std.specs.Prelude.{◌≡◌, ℕ, ◌<◌, Option, None, Some, get_or, slice_set, pos, nat_eq, nat_le, if◌then◌else◌}
use Rattle.spec_exact.specs.Fraction.{ℚ, 0ℚ, over, ◌-ℚ◌, ◌*ℚ◌}
use Rattle.spec_pivot.specs.declared.status.Status.{Status}
use Rattle.spec_pivot.specs.declared.status.Status.TheVariants.{Basic}
use Rattle.spec_simplex.specs.Tableau.{or_zero, stand}
use Rattle.spec_simplex.specs.Step.{directed, other_bound, flip_way}
use Rattle.lp_rows.specs.Ratio.{bound_of}
use Rattle.lp_rows.specs.declared.tableau.tableau.RowTableau.{RowTableau}
use Rattle.lp_rows.specs.Shows.{IsWhole, width, all_width}
use Rattle.lp_rows.specs.Moves.{AreMoved, AreTurned}

-- the lower bound of column k of a tableau of integer rows, as a fraction; none where it has none
abbrev pub lower_in : {T : Type 0} → (T → ℕ) → RowTableau T → ℕ → Option ℚ
lower_in value r k = bound_of value (value r.denominator) (get_or r.lower.items k None)

-- the upper bound of column k of a tableau of integer rows, as a fraction; none where it has none
abbrev pub upper_in : {T : Type 0} → (T → ℕ) → RowTableau T → ℕ → Option ℚ
upper_in value r k = bound_of value (value r.denominator) (get_or r.upper.items k None)

-- the status of column k of a tableau of integer rows, `Basic` behind its columns
abbrev pub status_in : {T : Type 0} → RowTableau T → ℕ → Status
status_in r k = get_or r.status.items k Basic

-- the basic column of position i of a tableau of integer rows, 0 behind its positions
abbrev pub basic_in : {T : Type 0} → RowTableau T → ℕ → ℕ
basic_in r i = get_or r.basic.items i 0

-- the tableau s has the number of columns, the lower bounds, the fixed columns and the denominator of r, as after a
-- flip or a pivot
pub record IsKept {T : Type 0} (r s : RowTableau T) : Type 0 where
  pub cols : s.cols ≡ r.cols
  pub lower : s.lower ≡ r.lower
  pub fixed : s.fixed ≡ r.fixed
  pub denominator : s.denominator ≡ r.denominator

-- A flip took the tableau r to s: column j is at its other bound. `by`, over the denominator of all bounds, is how far
-- it moved, and each basic value is less by its entry in column j times that. All else is as it was.
pub record IsFlipped {T : Type 0} (value : T → ℕ) (j : ℕ) (r s : RowTableau T) : Type 0 where
  pub whole : IsWhole value s
  pub kept : IsKept r s
  pub costs : s.costs ≡ r.costs
  pub basic : s.basic ≡ r.basic
  pub upper : s.upper ≡ r.upper
  pub status : s.status.items ≡ slice_set r.status.items j (other_bound (flip_way (status_in r j)))
  pub by : ℚ
  pub range : by *ℚ over (pos 1) (value r.denominator) ≡
      directed (flip_way (status_in r j)) (or_zero (upper_in value r j) -ℚ or_zero (lower_in value r j))
  pub rows : AreMoved value (width r) j by r.rows.items s.rows.items

-- The upper bound of column k once column q has left the basis, where it was b before. An artificial column that leaves
-- gets the upper bound 0. The artificial columns are those from number n on.
abbrev pub left_upper : ℕ → ℕ → ℕ → Option ℚ → Option ℚ
left_upper n q k b = if nat_le n q then (if nat_eq k q then Some 0ℚ else b) else b

-- A pivot took the tableau r to s: column j is basic at position p, and the column that was there is at its bound `to`,
-- and gets the upper bound 0 if it is artificial. Rows, values and reduced costs are turned so.
pub record IsPivoted {T : Type 0} (value : T → ℕ) (p j : ℕ) (to : Status) (r s : RowTableau T) : Type 0 where
  pub whole : IsWhole value s
  pub kept : IsKept r s
  pub basic : s.basic.items ≡ slice_set r.basic.items p j
  pub status : s.status.items ≡ slice_set (slice_set r.status.items (basic_in r p) to) j Basic
  pub upper : (k : ℕ) → k < all_width r →
      upper_in value s k ≡ left_upper (width r) (basic_in r p) k (upper_in value r k)
  pub leaves_at : ℚ
  pub enters_from : ℚ
  pub leaves : leaves_at *ℚ over (pos 1) (value r.denominator) ≡
      stand to (lower_in value r (basic_in r p)) (upper_in value r (basic_in r p))
  pub enters : enters_from *ℚ over (pos 1) (value r.denominator) ≡
      stand (status_in r j) (lower_in value r j) (upper_in value r j)
  pub rows : AreTurned value (width r) p j leaves_at enters_from r.rows.items s.rows.items r.costs s.costs
