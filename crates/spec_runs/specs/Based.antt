-- What holds of the tableau of a basis and of those that the dual method makes of it,
-- and what a choice of that method means.
use Rattle.std.specs.Prelude.{◌≡◌, ◌≢◌, ℕ, List, ◌+◌, ◌<◌, ◌≤◌, Some}
use Rattle.spec_exact.specs.Fraction.{ℚ, 0ℚ, 1ℚ, ◌*ℚ◌}
use Rattle.spec_exact.specs.Sums.{sum_below}
use Rattle.spec_pivot.specs.declared.status.Status.{Status}
use Rattle.spec_pivot.specs.declared.status.Status.TheVariants.{Basic}
use Rattle.spec_pivot.specs.declared.status.Way.{Way}
use Rattle.spec_pivot.specs.Tableau.{Matrix}
use Rattle.spec_pivot.specs.Simplex.{Bounds, IsInside}
use Rattle.spec_simplex.specs.Form.{Form, form_lower, form_upper}
use Rattle.spec_simplex.specs.Start.{cost_at}
use Rattle.spec_simplex.specs.Tableau.{Tableau, value_at, status_at, lower_at, upper_at}
use Rattle.spec_simplex.specs.Tables.{table_of, bounds_of, IsTableauOf}
use Rattle.spec_simplex.specs.Begins.{form_rows}
use Rattle.spec_pivot.specs.Dual.{IsDualFeasible, bound_behind, Leaves, IsCandidate, IsCheapest}
use Rattle.spec_simplex.specs.declared.ends.DualEnd.TheVariants.{Optimal, Infeasible}
use Rattle.spec_simplex.specs.declared.ends.DualChoice.{DualChoice}
use Rattle.spec_simplex.specs.declared.ends.DualChoice.TheVariants.{End, Pivot}
use Rattle.spec_simplex.specs.Eliminate.{basis_at}

-- t is a tableau of the m equations f over n structural columns, m logical and m artificial ones, with these costs and
-- bounds, in which each artificial is fixed at 0. Its basic values may be outside their bounds.
pub record IsBased (m n : ℕ) (f : Matrix) (cost : ℕ → ℚ) (b : Bounds) (t : Tableau) : Type 0 where
  pub tableau : IsTableauOf m n f cost b t
  pub top : (k : ℕ) → n + m ≤ k → k < n + m + m → b.upper k ≡ Some 0ℚ

-- t is a tableau of these equations, costs and bounds, in which artificials are fixed at 0. It is dual feasible: the
-- reduced cost of each column that is not fixed suits this column's status by its sign.
pub record IsReady (m n : ℕ) (f : Matrix) (cost : ℕ → ℚ) (b : Bounds) (t : Tableau) : Type 0 where
  pub based : IsBased m n f cost b t
  pub feasible : IsDualFeasible (n + m + m) b (table_of t)

-- the equations of a form, over all columns: row r has the negative of each coefficient, and 1 at the row's logical and
-- at its artificial
abbrev pub equations : Form → Matrix
equations f = form_rows f (λ r. 1ℚ)

-- a tableau of the form's equations and costs, in which artificials are fixed at 0; its other bounds are the form's
pub record BeginsFrom (f : Form) (t : Tableau) : Type 0 where
  pub based : IsBased f.rows f.cols (equations f) (cost_at f.cost) (bounds_of t) t
  pub lower : (k : ℕ) → k < f.cols + f.rows → lower_at t k ≡ form_lower f k
  pub upper : (k : ℕ) → k < f.cols + f.rows → upper_at t k ≡ form_upper f k

-- the numbers x show that the basic column j of the basis depends on the basic columns before it: they make each
-- equation of the form 0, with 1 in column j and 0 in each column that is not j or one of those
pub record IsDependent (f : Form) (basis : List Status) (j : ℕ) (x : ℕ → ℚ) : Type 0 where
  pub inside : j < f.cols + f.rows
  pub basic : basis_at basis j ≡ Basic
  pub own : x j ≡ 1ℚ
  pub others : (k : ℕ) → k ≢ j → ¬ ((k < j) × (basis_at basis k ≡ Basic)) → x k ≡ 0ℚ
  pub solves : (i : ℕ) → i < f.rows → sum_below (f.cols + f.rows + f.rows) (λ k. equations f i k *ℚ x k) ≡ 0ℚ

-- the basic column at position p is past one of its bounds and has to go this way to come back, and no column may enter
-- to bring it back
pub record IsStuck (m n : ℕ) (b : Bounds) (t : Tableau) (p : ℕ) (way : Way) : Type 0 where
  pub bound : ℚ
  pub leaves : Leaves m b (table_of t) way p bound
  pub none : (k : ℕ) → k < n + m + m → ¬ (IsCandidate b (table_of t) way p k)

-- the basic column at position p is past one of its bounds and has to go this way to come back, and of the columns that
-- may enter to bring it back column j has the least ratio of its reduced cost to its entry, both in magnitude
pub record IsDualStep (m n : ℕ) (b : Bounds) (t : Tableau) (p j : ℕ) (way : Way) : Type 0 where
  pub bound : ℚ
  pub leaves : Leaves m b (table_of t) way p bound
  pub cheapest : IsCheapest (n + m + m) b (table_of t) way p j

-- What a choice of the dual method means. An optimal end: no basic column is outside its bounds. An infeasible end: one
-- is outside, and none can bring it back. A pivot: one is outside, and the column with the least ratio brings it back
-- to the bound that it was past.
abbrev pub IsDualMeant : ℕ → ℕ → Bounds → Tableau → DualChoice → Type 0
IsDualMeant m n b t (End Optimal) =
    (k : ℕ) → k < n + m + m → status_at t k ≡ Basic → IsInside (b.lower k) (b.upper k) (value_at t k)
IsDualMeant m n b t (End (Infeasible p way)) = IsStuck m n b t p way
IsDualMeant m n b t (Pivot p j to) = (way : Way) × IsDualStep m n b t p j way × (to ≡ bound_behind way)
