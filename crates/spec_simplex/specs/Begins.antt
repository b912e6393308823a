-- The equations of a form, and what holds of the tableau that it begins with.
use Rattle.std.specs.Prelude.{◌≡◌, ℕ, ◌+◌, ◌<◌, List, length, Some}
use Rattle.spec_exact.specs.Fraction.{ℚ, ◌*ℚ◌, ◌≤ℚ◌, neg_ℚ}
use Rattle.spec_pivot.specs.Tableau.{Matrix, delta}
use Rattle.spec_simplex.specs.declared.ends.RowStart.{RowStart}
use Rattle.spec_simplex.specs.Form.{Form, form_entry, form_lower, form_upper}
use Rattle.spec_simplex.specs.Start.{start_at, logical_sign, by_column, cost_at, first_costs}
use Rattle.spec_simplex.specs.Tableau.{Tableau}
use Rattle.spec_simplex.specs.Tables.{bounds_of, IsTableauOf, IsWithinBounds}

-- the equations of a form, as a matrix over all columns. Row r has the negative of each structural coefficient, 1 at
-- the row's own logical, `signs r` at the row's own artificial, and 0 elsewhere
abbrev pub form_rows : Form → (ℕ → ℚ) → Matrix
form_rows f signs r k = by_column f k (neg_ℚ (form_entry f r k)) (λ i. delta r i) (λ i. signs r *ℚ delta r i)

-- the sign of the artificial of row r in the form's equations, by how the row begins: -1 where its sum is below its
-- lower limit, else 1
abbrev pub signs_of : List (RowStart ℚ) → ℕ → ℚ
signs_of starts r = logical_sign (start_at starts r)

-- the form f has a bound or none for each structural and each logical column, and no lower bound is above the upper
-- bound of its column
pub record IsProper (f : Form) : Type 0 where
  pub all_lower : length f.lower ≡ f.cols + f.rows
  pub all_upper : length f.upper ≡ f.cols + f.rows
  pub ordered : (k : ℕ) (l u : ℚ) → k < f.cols + f.rows → form_lower f k ≡ Some l → form_upper f k ≡ Some u → l ≤ℚ u

-- for some list of how each row begins, t is a tableau of the equations and of the costs of phase one that the form f
-- has by that list; and each value of t is within its bounds
pub record Begins (f : Form) (t : Tableau) : Type 0 where
  pub starts : List (RowStart ℚ)
  pub tableau : IsTableauOf f.rows f.cols (form_rows f (signs_of starts)) (cost_at (first_costs f starts))
      (bounds_of t) t
  pub within : IsWithinBounds f.rows f.cols (bounds_of t) t
