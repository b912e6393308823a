-- What the run from a basis ends with, and where it begins.
use Rattle.std.specs.Prelude.{◌≡◌, ℕ, List, None, Ok}
use Rattle.spec_exact.specs.Fraction.{ℚ}
use Rattle.spec_pivot.specs.declared.status.Status.{Status}
use Rattle.spec_simplex.specs.declared.ends.Fit.TheVariants as fit
use Rattle.spec_simplex.specs.Form.{Form}
use Rattle.spec_simplex.specs.Tableau.{Tableau}
use Rattle.spec_simplex.specs.Eliminate.{start_from}
use Rattle.spec_simplex.specs.Fit.{fit_run}
use Rattle.spec_runs.specs.Warm.{WarmEnd, warm_run, warm_certificate, warm_basis, warm_pivots}
use Rattle.lp_rows.specs.Shows.{IsReached, Shows}
use Rattle.lp_row_runs.specs.Phases.{IsReady}
use Rattle.lp_row_runs.specs.declared.phases.Phase.TheVariants.{Two}
use Rattle.lp_row_runs.specs.declared.phases.State.{State}
use Rattle.lp_row_runs.specs.declared.phases.RowEnd.{RowEnd}
use Rattle.lp_row_runs.specs.declared.start.Begun.{Begun}
use Rattle.lp_row_runs.specs.declared.start.Begun.TheVariants.{Ready, Narrow, Stopped}

-- the end has the certificate, the basis and the count of the stated run from a basis, with no limit on numbers
pub record EndsFromBasis (budget : ℕ) (f : Form) (from : List Status) (e : RowEnd ℚ) : Type 0 where
  pub end : WarmEnd
  pub run : warm_run None budget f from ≡ Ok end
  pub certificate : e.certificate ≡ warm_certificate end
  pub basis : e.basis ≡ warm_basis end
  pub pivots : e.pivots ≡ warm_pivots end

-- the state is at the beginning of phase two, after no step, and its rows show the tableau of the basis,
-- which is primal feasible
pub record StandsAtBasis {T : Type 0} (value : T → ℕ) (f : Form) (basis : List Status) (s : State T) : Type 0 where
  pub tableau : Tableau
  pub starts : start_from None f basis ≡ Ok tableau
  pub fits : fit_run None tableau ≡ Ok fit.Primal
  pub reached : IsReached tableau
  pub shown : Shows value s.tab tableau
  pub phase : s.phase ≡ Two
  pub used : s.used ≡ 0

-- if the run begins, it is with the primal feasible tableau of the basis; where it stops before that, nothing is asked
abbrev pub BeginsAtBasis : {T : Type 0} → (T → ℕ) → Form → List Status → Begun T → Type 0
BeginsAtBasis value f basis (Ready s) = StandsAtBasis value f basis s
BeginsAtBasis value f basis Narrow = Unit {0}
BeginsAtBasis value f basis Stopped = Unit {0}

-- if the run begins, its rows are whole and have the form's size; where it stops before that, nothing is asked
abbrev pub BeginsReady : {T : Type 0} → (T → ℕ) → Form → Begun T → Type 0
BeginsReady value f (Ready s) = IsReady value f s
BeginsReady value f Narrow = Unit {0}
BeginsReady value f Stopped = Unit {0}
