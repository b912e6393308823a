-- The rows that a tableau begins with, without the artificial columns.
use Rattle.std.specs.Prelude.{◌≡◌, ℕ, ◌+◌, ◌<◌, ◌≤◌, List, Bool, true, false, Option, Ok}
use Rattle.spec_exact.specs.Fraction.{ℚ, 0ℚ}
use Rattle.spec_simplex.specs.declared.ends.RowStart.{RowStart}
use Rattle.spec_simplex.specs.declared.ends.RowStart.TheVariants.{Within, Below, Above}
use Rattle.spec_exact.specs.Run.{Run, ◌>>=◌, made}
use Rattle.spec_simplex.specs.Form.{Form, form_entry}
use Rattle.spec_simplex.specs.Tableau.{Tableau, at_place}
use Rattle.spec_simplex.specs.Start.{start_entry, start_at, begun, first_costs, priced_run, with_reduced}
use Rattle.lp_tableau.specs.Grid.{IsGrid}

-- whether the row's sum is below its lower limit, so that its artificial is the negative of its logical
abbrev pub is_below : RowStart ℚ → Bool
is_below (Within v) = false
is_below (Below gap) = true
is_below (Above gap) = false

-- row i of the tableau at the start, in its structural and logical columns
abbrev pub start_front : Form → List (RowStart ℚ) → ℕ → List ℚ
start_front f starts i = made (f.cols + f.rows) (start_entry f (start_at starts i) i)

-- the rows have the form's coefficients in the first n columns, and 0 in the others
pub record HoldsColumns (f : Form) (n : ℕ) (rows : List (List ℚ)) : Type 0 where
  pub shape : IsGrid f.rows f.cols rows
  pub done : (i k : ℕ) → i < f.rows → k < n → at_place rows i k ≡ form_entry f i k
  pub rest : (i k : ℕ) → i < f.rows → n ≤ k → k < f.cols → at_place rows i k ≡ 0ℚ

-- the tableau of these starts, with the reduced costs of phase one; or the refusal of an operation
abbrev pub priced_start : Option ℕ → Form → List (RowStart ℚ) → Run Tableau
priced_start limit f starts =
    priced_run limit (begun f starts) (first_costs f starts) >>= λ reduced. Ok (with_reduced (begun f starts) reduced)
