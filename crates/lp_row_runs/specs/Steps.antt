-- What steps over rows come to, by the tableaus of exact fractions that the rows are.
use Rattle.std.specs.Prelude.{◌≡◌, ℕ, ◌-◌, Some, None, Result, Ok}
use Rattle.spec_exact.specs.Fraction.{ℚ}
use Rattle.spec_simplex.specs.declared.ends.PrimalEnd.{PrimalEnd}
use Rattle.spec_simplex.specs.declared.ends.RunStop.{RunStop}
use Rattle.spec_simplex.specs.Tableau.{Tableau}
use Rattle.spec_simplex.specs.Phases.{PrimalEnded, run_from}
use Rattle.lp_rows.specs.declared.tableau.tableau.RowTableau.{RowTableau}
use Rattle.lp_rows.specs.Shows.{height, IsWhole, IsReached, Shows}
use Rattle.lp_rows.specs.Ends.{IsInside}
use Rattle.lp_row_runs.specs.declared.steps.StepsPause.{StepsPause}
use Rattle.lp_row_runs.specs.declared.steps.StepsPause.TheVariants.{Ended, Narrow, GaveUp}

-- the stated steps from a tableau, before which `used` of the budget were made, with no limit on numbers
abbrev pub steps_from : ℕ → ℕ → Tableau → Result PrimalEnded (RunStop ℚ)
steps_from budget used t = run_from None (budget - used) used t

-- The rows show a reached tableau, and the stated steps from it, with the count `now`, come to the same as those from t
-- with the count `used`.
pub record ComesTo {T : Type 0} (value : T → ℕ) (budget used : ℕ) (t : Tableau) (r : RowTableau T) (now : ℕ) :
    Type 0 where
  pub tableau : Tableau
  pub reached : IsReached tableau
  pub shown : Shows value r tableau
  pub same : steps_from budget used t ≡ steps_from budget now tableau

-- the stated steps from t, with the count `used`, end so, with the count `now`, at a reached tableau that the rows show
pub record EndsAt {T : Type 0} (value : T → ℕ) (budget used : ℕ) (t : Tableau) (r : RowTableau T) (now : ℕ)
    (end : PrimalEnd) : Type 0 where
  pub tableau : Tableau
  pub reached : IsReached tableau
  pub shown : Shows value r tableau
  pub ends : steps_from budget used t ≡ Ok (record { end = end; tableau = tableau; used = now })

-- Steps over rows from t stopped right, with the rows r and the count `now`: at the end of the stated steps, or, where
-- a number was past the width, at a tableau on their way. Where they gave up, nothing is asked.
abbrev pub PausesAt : {T : Type 0} → (T → ℕ) → ℕ → ℕ → Tableau → RowTableau T → ℕ → StepsPause → Type 0
PausesAt value budget used t r now (Ended end) = EndsAt value budget used t r now end
PausesAt value budget used t r now Narrow = ComesTo value budget used t r now
PausesAt value budget used t r now GaveUp = Unit {0}

-- the tableau s is whole, and has as many rows and columns as r
pub record Keeps {T : Type 0} (value : T → ℕ) (r s : RowTableau T) : Type 0 where
  pub whole : IsWhole value s
  pub rows : height s ≡ height r
  pub cols : s.cols ≡ r.cols

-- unless steps over rows gave up, the rows are whole and as many as before; a column that nothing stops is structural
-- or logical
abbrev pub KeepsAt : {T : Type 0} → (T → ℕ) → RowTableau T → RowTableau T → StepsPause → Type 0
KeepsAt value r s (Ended end) = Keeps value r s × IsInside s (Some end)
KeepsAt value r s Narrow = Keeps value r s
KeepsAt value r s GaveUp = Unit {0}
