-- The warm start of a model from a basis, at a limit and within a budget: the form, the tableau of the basis, the
-- method that suits it, and the check of what that ended with.
use Rattle.std.specs.Prelude.{◌≡◌, ℕ, ◌+◌, List, Option, None, Result, Ok, Err}
use Rattle.spec_exact.specs.Fraction.{ℚ}
use Rattle.spec_model.specs.Model.{Model}
use Rattle.spec_check.specs.declared.certificate.Certificate.{Certificate}
use Rattle.spec_check.specs.declared.certificate.Certificate.TheVariants as certificate
use Rattle.spec_check.specs.declared.certificate.Known.{Known}
use Rattle.spec_check.specs.declared.certificate.CheckStop.{CheckStop as Refusal}
use Rattle.spec_check.specs.declared.certificate.CheckStop.TheVariants as check
use Rattle.spec_check.specs.Run.{check_run}
use Rattle.spec_pivot.specs.declared.status.Status.{Status}
use Rattle.spec_pivot.specs.declared.status.Way.{Way}
use Rattle.spec_simplex.specs.declared.ends.FormFault.{FormFault}
use Rattle.spec_simplex.specs.declared.ends.FormFault.TheVariants as fault
use Rattle.spec_simplex.specs.declared.ends.PrimalEnd.TheVariants as primal
use Rattle.spec_simplex.specs.declared.ends.RunStop.{RunStop}
use Rattle.spec_simplex.specs.declared.ends.RunStop.TheVariants as stop
use Rattle.spec_exact.specs.Run.{◌>>=◌, refused_as, made}
use Rattle.spec_simplex.specs.Form.{Form, form_of}
use Rattle.spec_simplex.specs.Step.{directed}
use Rattle.spec_simplex.specs.Tableau.{Tableau, entry_at}
use Rattle.spec_simplex.specs.Phases.{PrimalEnded, run_from}
use Rattle.spec_runs.specs.Cold.{point, multipliers, certificate_at, basis_at}
use Rattle.spec_simplex.specs.declared.ends.DualEnd.{DualEnd}
use Rattle.spec_simplex.specs.declared.ends.DualEnd.TheVariants.{Optimal, Infeasible}
use Rattle.spec_simplex.specs.declared.ends.Fit.{Fit}
use Rattle.spec_simplex.specs.declared.ends.Fit.TheVariants as fit
use Rattle.spec_simplex.specs.declared.ends.StartStop.{StartStop}
use Rattle.spec_simplex.specs.declared.ends.StartStop.TheVariants as start
use Rattle.spec_runs.specs.declared.ends.Warm.{Warm}
use Rattle.spec_runs.specs.declared.ends.Warm.TheVariants as outcome
use Rattle.spec_simplex.specs.declared.ends.WarmStop.{WarmStop}
use Rattle.spec_simplex.specs.declared.ends.WarmStop.TheVariants as fall
use Rattle.spec_simplex.specs.Eliminate.{IsBasisOf, start_from}
use Rattle.spec_simplex.specs.Fit.{fit_run}
use Rattle.spec_simplex.specs.Dual.{DualEnded, dual_run}

-- ---- one kind of stop as another

-- the same result, where a stop becomes one of another kind by `kind`
abbrev pub stopped_as : {A D E : Type 0} → (D → E) → Result A D → Result A E
stopped_as kind (Ok a) = Ok a
stopped_as kind (Err e) = Err (kind e)

-- why no tableau of the basis is made, as the stop of a warm start
abbrev pub start_stop : StartStop ℚ → WarmStop ℚ
start_stop start.Singular = fall.Singular
start_stop (start.Past p) = fall.Past p

-- why the primal or the dual method stopped, as the stop of a warm start
abbrev pub run_stop : RunStop ℚ → WarmStop ℚ
run_stop (stop.Past p) = fall.Past p
run_stop stop.Spent = fall.Spent

-- ---- the run

-- how a run from a basis ended: by the primal or by the dual method
pub data WarmEnd : Type 0 where
  ByPrimal : PrimalEnded → WarmEnd
  ByDual : DualEnded → WarmEnd

-- the run from a tableau by its fit, at a limit and within a budget: by the primal method where it is primal feasible,
-- by the dual one where it can be made dual feasible; an unfit tableau stops it
abbrev pub run_by : Option ℕ → ℕ → Tableau → Fit → Result WarmEnd (WarmStop ℚ)
run_by limit budget t fit.Primal = stopped_as run_stop (run_from limit budget 0 t) >>= λ e. Ok (ByPrimal e)
run_by limit budget t fit.Dual = stopped_as run_stop (dual_run limit budget t) >>= λ e. Ok (ByDual e)
run_by limit budget t fit.Unfit = Err fall.Unfit

-- the run from a basis, by the method that fits its tableau; or why it stops: there is no tableau, no method fits it,
-- an operation is past the limit, or the budget is spent
unfoldable pub warm_run : Option ℕ → ℕ → Form → List Status → Result WarmEnd (WarmStop ℚ)
warm_run limit budget f basis =
    stopped_as start_stop (start_from limit f basis) >>= λ t.
    refused_as fall.Past (fit_run limit t) >>= λ fit.
    run_by limit budget t fit

-- ---- certificates of ends

-- the multipliers by which position p's row shows that no point is feasible: its entries in the rows' logicals, or
-- their negatives where the way is down
abbrev pub row_multipliers : Tableau → ℕ → Way → List ℚ
row_multipliers t p way = made t.rows (λ i. directed way (entry_at t p (t.cols + i)))

-- the certificate of what the dual method ends with at a tableau: of an optimum its point and multipliers; else the
-- multipliers by which the row of the position that is stuck shows that no point is feasible
abbrev pub dual_certificate : Tableau → DualEnd → Certificate (List ℚ)
dual_certificate t Optimal = certificate.Optimal (point t) (multipliers t)
dual_certificate t (Infeasible p way) = certificate.Infeasible (row_multipliers t p way)

-- the certificate of what the run from a basis ends with
abbrev pub warm_certificate : WarmEnd → Certificate (List ℚ)
warm_certificate (ByPrimal e) = certificate_at e.tableau e.end
warm_certificate (ByDual e) = dual_certificate e.tableau e.end

-- ---- the basis of an optimal end

-- the basis that the dual method leaves, if it ended with an optimum; else none
abbrev pub dual_basis : Tableau → DualEnd → Option (List Status)
dual_basis t Optimal = basis_at t primal.Optimal
dual_basis t (Infeasible p way) = None

-- the basis that the run from a basis leaves, if it ended with an optimum; else none
abbrev pub warm_basis : WarmEnd → Option (List Status)
warm_basis (ByPrimal e) = basis_at e.tableau e.end
warm_basis (ByDual e) = dual_basis e.tableau e.end

-- the count of pivots and flips of a run
abbrev pub warm_pivots : WarmEnd → ℕ
warm_pivots (ByPrimal e) = e.used
warm_pivots (ByDual e) = e.used

-- ---- the certificate is checked, at the same limit

-- how a warm start ends, in exact numbers
abbrev pub WarmResult : Type 0
WarmResult = Warm ℚ (List ℚ) (List Status)

-- How a warm start ends, by what the checker says of its certificate: with the answer that it shows, or stopped past
-- the limit. The checker never says no to a certificate of an end, so the last case never comes.
abbrev pub checked : Certificate (List ℚ) → Option (List Status) → ℕ → Result (Known ℚ) (Refusal ℚ) → WarmResult
checked certificate basis pivots (Ok answer) = outcome.Ended answer certificate basis pivots
checked certificate basis pivots (Err (check.Past p)) = outcome.Stopped (fall.Past p)
checked certificate basis pivots (Err (check.No n)) = outcome.Stopped fall.Spent

-- how a warm start with a certificate ends, by the check of it, as `checked` says: with the answer that it shows;
-- stopped past the limit; or stopped as spent, should the checker say no
abbrev pub answered : Option ℕ → Model → Certificate (List ℚ) → Option (List Status) → ℕ → WarmResult
answered limit m certificate basis pivots = checked certificate basis pivots (check_run limit m certificate)

-- ---- the whole

-- how a warm start ends after its run: by the check of the run's certificate, or stopped as the run was
abbrev pub after_run : Option ℕ → Model → Result WarmEnd (WarmStop ℚ) → WarmResult
after_run limit m (Ok e) = answered limit m (warm_certificate e) (warm_basis e) (warm_pivots e)
after_run limit m (Err s) = outcome.Stopped s

-- How a warm start ends by the model's form: by the run from the basis. Where bounds clash, it ends with the clash as
-- the certificate; where the form is past the limit, it stops so.
abbrev pub after_form : Option ℕ → ℕ → Model → List Status → Result Form (FormFault ℚ) → WarmResult
after_form limit budget m basis (Ok f) = after_run limit m (warm_run limit budget f basis)
after_form limit budget m basis (Err (fault.Clash j)) = answered limit m (certificate.Clash j) None 0
after_form limit budget m basis (Err (fault.Past p)) = outcome.Stopped (fall.Past p)

-- How the warm start of a model from a basis ends, at a limit and within a budget: with an answer and a certificate
-- that the checker accepts, or stopped, without an answer. Nothing is solved cold here.
unfoldable pub warm : Option ℕ → ℕ → Model → List Status → WarmResult
warm limit budget m basis = after_form limit budget m basis (form_of limit m)

-- if the model has a form at this limit, the basis is one of that form
abbrev pub IsBasisFor : Option ℕ → Model → List Status → Type 0
IsBasisFor limit m basis = (f : Form) → form_of limit m ≡ Ok f → IsBasisOf f basis
