-- A tableau of lists, as one of functions of an index, and what a choice of the run means for it.
use Rattle.std.specs.Prelude.{◌≡◌, ◌⊎◌, ℕ, ◌+◌, ◌<◌, ◌≤◌, Option, None, Ok, []}
use Rattle.std.specs.Prelude.{length, get_or, Some, true, false}
use Rattle.spec_exact.specs.Fraction.{ℚ, 0ℚ}
use Rattle.spec_pivot.specs.declared.status.Status.TheVariants.{Basic}
use Rattle.spec_pivot.specs.declared.status.Way.{Way}
use Rattle.spec_pivot.specs.Tableau.{Matrix}
use Rattle.spec_pivot.specs.Simplex.{Bounds, Table, IsTableau, IsWithin, IsEligible, Label, IsStep}
use Rattle.spec_pivot.specs.Ratio.{GoesOn}
use Rattle.spec_simplex.specs.declared.ends.PrimalEnd.TheVariants.{Optimal, Unbounded}
use Rattle.spec_simplex.specs.declared.ends.Choice.{Choice}
use Rattle.spec_simplex.specs.declared.ends.Choice.TheVariants.{End, Flip, Pivot}
use Rattle.spec_simplex.specs.Tableau.{Tableau, form_columns, all_columns, is_artificial, entry_at}
use Rattle.spec_simplex.specs.Tableau.{basic_at, value_at, reduced_at, status_at, lower_at, upper_at}
use Rattle.spec_simplex.specs.Step.{flip_run, pivot_run}

-- the tableau of lists t as one of functions of an index: entries, basic columns, values, reduced costs and statuses
abbrev pub table_of : Tableau → Table
table_of t =
    record { entry = entry_at t; basic = basic_at t; value = value_at t; reduced = reduced_at t; status = status_at t }

-- the bounds of the columns of the tableau t; the artificial columns, and no others, are barred from entering
abbrev pub bounds_of : Tableau → Bounds
bounds_of t = record { lower = lower_at t; upper = upper_at t; barred = is_artificial t }

-- each list of t has an item for each of its positions or columns, and each of its rows has an entry for each column
pub record IsWhole (t : Tableau) : Type 0 where
  pub all_rows : length t.entries ≡ t.rows
  pub whole_rows : (i : ℕ) → i < t.rows → length (get_or t.entries i []) ≡ all_columns t
  pub all_basic : length t.basic ≡ t.rows
  pub all_values : length t.value ≡ all_columns t
  pub all_reduced : length t.reduced ≡ all_columns t
  pub all_statuses : length t.status ≡ all_columns t
  pub all_lower : length t.lower ≡ all_columns t
  pub all_upper : length t.upper ≡ all_columns t

-- The tableau t has the bounds b, and in b its artificial columns, and no others, are barred from entering. In b an
-- artificial has the lower bound 0 and the upper bound 0 or none. In t an artificial that is not basic has the upper
-- bound 0, whatever b has.
pub record KeepsBounds (b : Bounds) (t : Tableau) : Type 0 where
  pub lower : (k : ℕ) → k < all_columns t → lower_at t k ≡ b.lower k
  pub upper : (k : ℕ) → k < form_columns t → upper_at t k ≡ b.upper k
  pub entering : (k : ℕ) → k < form_columns t → b.barred k ≡ false
  pub barred : (k : ℕ) → form_columns t ≤ k → b.barred k ≡ true
  pub zero : (k : ℕ) → form_columns t ≤ k → k < all_columns t → b.lower k ≡ Some 0ℚ
  pub top : (k : ℕ) → form_columns t ≤ k → k < all_columns t → (b.upper k ≡ None) ⊎ (b.upper k ≡ Some 0ℚ)
  pub basic : (k : ℕ) → k < all_columns t → status_at t k ≡ Basic → upper_at t k ≡ b.upper k
  pub fixed : (k : ℕ) → form_columns t ≤ k → k < all_columns t → ¬ (status_at t k ≡ Basic) → upper_at t k ≡ Some 0ℚ

-- t has m positions, n structural columns and lists of the right lengths. It is the equations f solved for its basic
-- columns, its reduced costs are those of these costs, and it keeps the bounds b
pub record IsTableauOf (m n : ℕ) (f : Matrix) (cost : ℕ → ℚ) (b : Bounds) (t : Tableau) : Type 0 where
  pub rows : t.rows ≡ m
  pub cols : t.cols ≡ n
  pub whole : IsWhole t
  pub tableau : IsTableau m (n + m + m) f cost b (table_of t)
  pub bounds : KeepsBounds b t

-- the value of each column of t, of m positions and n structural columns, is within the bounds b
abbrev pub IsWithinBounds : ℕ → ℕ → Bounds → Tableau → Type 0
IsWithinBounds m n b t = IsWithin (n + m + m) b (table_of t)

-- a step by Bland's rule leads from the tableau t to u. Of u is claimed that it is a tableau of the same equations,
-- costs and bounds, with each value within these bounds
pub record StepsTo (m n : ℕ) (f : Matrix) (cost : ℕ → ℚ) (b : Bounds) (t u : Tableau) : Type 0 where
  pub label : Label
  pub step : IsStep m (n + m + m) b label (table_of t) (table_of u)
  pub after : IsTableauOf m n f cost b u
  pub within : IsWithinBounds m n b u

-- What a choice for the tableau t means. Optimal: no column is eligible to enter. Unbounded: column j enters by Bland's
-- rule, and nothing stops it. A flip or a pivot: the tableau it makes of t, if none is refused, is one step by the rule
-- away.
abbrev pub IsMeant : ℕ → ℕ → Matrix → (ℕ → ℚ) → Bounds → Option ℕ → Tableau → Choice ℚ → Type 0
IsMeant m n f cost b limit t (End Optimal) = (w : Way) (k : ℕ) → k < n + m + m → ¬ (IsEligible b (table_of t) w k)
IsMeant m n f cost b limit t (End (Unbounded j w)) = GoesOn m (n + m + m) b (table_of t) w j
IsMeant m n f cost b limit t (Flip j) = (u : Tableau) → flip_run limit t j ≡ Ok u → StepsTo m n f cost b t u
IsMeant m n f cost b limit t (Pivot p j theta to) =
    (u : Tableau) → pivot_run limit t p j theta to ≡ Ok u → StepsTo m n f cost b t u
