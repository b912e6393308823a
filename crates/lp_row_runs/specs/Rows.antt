-- Rows of whole numbers for the equations of a form, as they are solved for the columns of a basis.
use Rattle.std.specs.Prelude.{◌≡◌, ℕ, ◌+◌, ◌<◌, List, length, get_or, map, None, Ok, false}
use Rattle.std.specs.Prelude.{not, All, replicate, if◌then◌else◌}
use Rattle.spec_exact.specs.Fraction.{ℚ, 0ℚ, ◌*ℚ◌, neg_ℚ}
use Rattle.spec_exact.specs.Sums.{sum_below}
use Rattle.spec_exact.specs.Run.{steps, made}
use Rattle.spec_pivot.specs.declared.status.Status.{Status}
use Rattle.spec_simplex.specs.Form.{Form, form_lower, form_upper}
use Rattle.spec_simplex.specs.Start.{with_reduced}
use Rattle.spec_simplex.specs.Tableau.{Tableau, at_place, is_basic, is_fixed}
use Rattle.spec_simplex.specs.Eliminate as stated
use Rattle.spec_simplex.specs.Eliminate.{basis_at, basis_status, basis_lower, basis_upper, basis_value}
use Rattle.spec_simplex.specs.Eliminate.{has_none, or_first, solved_run, unsolved, start_from}
use Rattle.lp_natural.specs.declared.words.signed.Signed.{Signed}
use Rattle.lp_rows.specs.declared.fractions.Row.{Row}
use Rattle.lp_rows.specs.Row.{fraction_at}
use Rattle.lp_rows.specs.Ratio.{bound_of}
use Rattle.lp_rows.specs.declared.tableau.tableau.RowTableau.{RowTableau}
use Rattle.lp_rows.specs.Shows.{IsRow, IsWhole, Shows, height, row_at}
use Rattle.lp_rows.specs.Moves.{number_at, number_in}
use Rattle.lp_row_runs.specs.declared.based.Based.{Based}
use Rattle.lp_row_runs.specs.declared.based.Based.TheVariants as based
use Rattle.lp_row_runs.specs.declared.elimination.Elimination.{Elimination}
use Rattle.lp_row_runs.specs.declared.elimination.Progress.{Progress}
use Rattle.lp_row_runs.specs.declared.elimination.Progress.TheVariants.{Done, Narrow, Stopped}

-- The rows have the coefficients of h equations over n columns. The last number of each, over d times its own
-- denominator, is its value: the negative of the sum of its coefficients in the first `placed` columns, each times the
-- value x of its column.
pub record AreRowsAt {T : Type 0} (value : T → ℕ) (d h n placed : ℕ) (x : ℕ → ℚ) (equations : ℕ → ℕ → ℚ)
    (rows : List (Row T)) : Type 0 where
  pub len : length rows ≡ h
  pub each : All (IsRow value n) rows
  pub entries : (i k : ℕ) → i < h → k < n → number_in value rows i k ≡ equations i k
  pub values : (i : ℕ) → i < h → row_at value d rows i n ≡ neg_ℚ (sum_below placed (λ k. equations i k *ℚ x k))

-- the list has n numbers, each of which is 0
pub record AreZeros {T : Type 0} (value : T → ℕ) (n : ℕ) (numbers : List (Signed T)) : Type 0 where
  pub len : length numbers ≡ n
  pub each : (d k : ℕ) → 0 < d → k < n → fraction_at value numbers d k ≡ 0ℚ

-- The tableau has the form's columns, bounds and fixed columns, and the statuses of the basis; each reduced cost is 0.
-- Of its rows and basic columns nothing is asked.
pub record HoldsForm {T : Type 0} (value : T → ℕ) (f : Form) (basis : List Status) (r : RowTableau T) : Type 0 where
  pub cols : r.cols ≡ f.cols
  pub costs : (k : ℕ) → k < f.cols + f.rows → number_at value r.costs k ≡ 0ℚ
  pub status : r.status.items ≡ basis_status f basis
  pub lower : map (bound_of value (value r.denominator)) r.lower.items ≡ basis_lower f
  pub upper : map (bound_of value (value r.denominator)) r.upper.items ≡ basis_upper f
  pub fixed : r.fixed.items ≡ made (f.cols + f.rows) (λ k. is_fixed (form_lower f k) (form_upper f k))

-- the tableau's rows are the form's equations before any is solved,
-- with the values of the first `placed` columns counted
pub record IsUnsolved {T : Type 0} (value : T → ℕ) (f : Form) (basis : List Status) (placed : ℕ) (r : RowTableau T) :
    Type 0 where
  pub whole : IsWhole value r
  pub form : HoldsForm value f basis r
  pub rows : AreRowsAt value (value r.denominator) f.rows (f.cols + f.rows) placed (basis_value f basis)
      (at_place (unsolved f).rows) r.rows.items
  pub basic : r.basic.items ≡ replicate f.rows 0

-- the tableau's rows are the form's equations, solved for those of the columns below j that are basic, as the stated
-- elimination has them, and `taken` says which positions have a column
pub record IsSolvedBelow {T : Type 0} (value : T → ℕ) (f : Form) (basis : List Status) (j : ℕ) (e : Elimination T) :
    Type 0 where
  pub now : stated.Elimination
  pub run : steps j (λ j e. if is_basic (basis_at basis j) then solved_run None f e j else Ok e) (unsolved f) ≡ Ok now
  pub form : HoldsForm value f basis e.tab
  pub rows : AreRowsAt value (value e.tab.denominator) f.rows (f.cols + f.rows) (f.cols + f.rows) (basis_value f basis)
      (at_place now.rows) e.tab.rows.items
  pub basic : e.tab.basic.items ≡ made f.rows (λ i. or_first (get_or now.basic i None))
  pub taken : (i : ℕ) → i < f.rows → get_or e.taken.items i false ≡ not (has_none (get_or now.basic i None))

-- the tableau is whole, and the elimination says for each of its rows whether it has a column
pub record IsComplete {T : Type 0} (value : T → ℕ) (e : Elimination T) : Type 0 where
  pub whole : IsWhole value e.tab
  pub each : length e.taken.items ≡ length e.tab.rows.items

-- if the elimination is done, P holds; where it stopped or needs wider words, nothing is asked
abbrev pub IfDone : Progress → Type 0 → Type 0
IfDone Done P = P
IfDone Narrow P = Unit {0}
IfDone Stopped P = Unit {0}

-- there is a tableau of the form for the basis, and the integer rows show it, but with 0 as each reduced cost
pub record ShowsBasis {T : Type 0} (value : T → ℕ) (f : Form) (basis : List Status) (r : RowTableau T) : Type 0 where
  pub tableau : Tableau
  pub starts : start_from None f basis ≡ Ok tableau
  pub shown : Shows value r (with_reduced tableau (replicate (f.cols + f.rows + f.rows) 0ℚ))

-- there is a tableau of the form for the basis, and the integer rows show it, with its reduced costs
pub record ShowsStart {T : Type 0} (value : T → ℕ) (f : Form) (basis : List Status) (r : RowTableau T) : Type 0 where
  pub tableau : Tableau
  pub starts : start_from None f basis ≡ Ok tableau
  pub shown : Shows value r tableau

-- the tableau is whole, and has as many rows and columns as the form
pub record HasSize {T : Type 0} (value : T → ℕ) (f : Form) (r : RowTableau T) : Type 0 where
  pub whole : IsWhole value r
  pub rows : f.rows ≡ height r
  pub cols : f.cols ≡ r.cols

-- if there are rows, P holds of them; where the elimination stopped or needs wider words, nothing is asked
abbrev pub IfRows : {T : Type 0} → (RowTableau T → Type 0) → Based T → Type 0
IfRows P (based.Rows r) = P r
IfRows P based.Narrow = Unit {0}
IfRows P based.Stopped = Unit {0}
