-- The warm start part by part, from the tableau of a basis.
--
-- `is_singular`: a start from a basis that stops for its cause finds the basis singular by the definition.
-- `is_past`: a start from a basis that stops past 127 bits is refused that operation by the definition.
-- `no_starting`: a model without a form has no starting basis.
-- `fits_form`: a starting basis of the model is one of the form that the model has.
-- `primal_fits`: the certificate of the primal method's end is one for the model.
-- `primal_never_no`: the checker never says no to the certificate of the primal method's end.
-- `dual_fits`: the certificate of the dual method's end is one for the model.
-- `dual_never_no`: the checker never says no to the certificate of the dual method's end.
use Rattle.std.proofs.Common.{◌≡◌, ◌≢◌, ℕ, List, Option, Some, None, IfSome, Result, Ok, Err}
use Rattle.std.proofs.Common.{refl, ap, sym, subst, ◌∙◌}
use Rattle.spec_exact.specs.Fraction.{ℚ}
use Rattle.spec_exact.specs.declared.past.Past.{Past}
use Rattle.spec_model.specs.Model.{Model}
use Rattle.spec_check.specs.declared.certificate.Certificate.{Certificate}
use Rattle.spec_check.specs.declared.certificate.Known.{Known}
use Rattle.spec_check.specs.declared.certificate.CheckStop.TheVariants.{No}
use Rattle.spec_check.specs.Certificate.{IsFor}
use Rattle.spec_check.specs.Run.{check_run}
use Rattle.spec_pivot.specs.declared.status.Status.{Status}
use Rattle.spec_simplex.specs.declared.ends.Fit.{Fit}
use Rattle.spec_simplex.specs.declared.ends.Fit.TheVariants as fit
use Rattle.spec_simplex.specs.declared.ends.FormFault.{FormFault}
use Rattle.spec_simplex.specs.declared.ends.RunStop.{RunStop}
use Rattle.spec_simplex.specs.declared.ends.StartStop.{StartStop}
use Rattle.spec_simplex.specs.declared.ends.StartStop.TheVariants as begun
use Rattle.spec_simplex.specs.declared.ends.WarmStop.{WarmStop}
use Rattle.spec_simplex.specs.declared.ends.WarmStop.TheVariants as fall
use Rattle.spec_exact.specs.Run.{◌>>=◌, refused_as}
use Rattle.spec_exact.specs.Narrow.{number_limit}
use Rattle.spec_simplex.specs.Form.{Form, form_of}
use Rattle.spec_simplex.specs.Tableau.{Tableau}
use Rattle.spec_simplex.specs.Phases.{PrimalEnded, run_from}
use Rattle.spec_simplex.specs.Eliminate.{IsBasisOf, start_from}
use Rattle.spec_simplex.specs.Fit.{fit_run}
use Rattle.spec_simplex.specs.Dual.{DualEnded, dual_run}
use Rattle.spec_check.specs.declared.solve_end.SolveEnd.TheVariants as cold
use Rattle.spec_runs.specs.Accepted.{IsAccepted}
use Rattle.spec_runs.specs.Cold as colds
use Rattle.spec_runs.proofs.NoCycle.{few_costs}
use Rattle.spec_simplex.proofs.FormOfModel.{form_proper}
use Rattle.spec_runs.specs.declared.ends.Route.TheVariants as route
use Rattle.spec_runs.specs.declared.ends.Warm.TheVariants as warm
use Rattle.spec_runs.specs.Based.{BeginsFrom}
use Rattle.spec_runs.specs.Warm.{WarmResult, ByPrimal, ByDual, stopped_as, start_stop, run_stop, run_by, warm_run}
use Rattle.spec_runs.specs.Warm.{dual_certificate, dual_basis, after_form, warm as warm_start}
use Rattle.spec_runs.specs.Solve.{HasBasis, fall_of}
use Rattle.spec_solve.specs.Order.{MayEndCold, MayEndBy, MayEnd}
use Rattle.spec_runs.proofs.BasisTableau.{start_begins_from}
use Rattle.spec_runs.proofs.TrueEnds.{run_accepted}
use Rattle.lp_tableau.specs.Based.{StopsAt}
use Rattle.lp_frac.specs.declared.stop.Stop.{Stop}
use Rattle.lp_form.specs.declared.stop.Singular.{Singular}
use Rattle.lp_frac.specs.declared.stop.Stop.TheVariants as stop
use Rattle.lp_simplex.specs.Starts.{IsDualStart}
use Rattle.lp_simplex.proofs.DualFeasibleRuns.{can_start}
use Rattle.lp_solve.specs.Begun.{IsBegun}
use Rattle.lp_solve.proofs.Accepted.{never_no}
use Rattle.lp_solve.proofs.Left.{warm_leaves}

-- ---- stops as the code has them
pub is_singular : {A : Type 0} (run : Result A (StartStop ℚ)) (s : Stop Singular) (why : Singular) →
    s ≡ stop.Cause why → StopsAt run s → run ≡ Err begun.Singular
is_singular run s why e h = subst (StopsAt run) e h

pub is_past : {A : Type 0} (run : Result A (StartStop ℚ)) (s : Stop Singular) (p : Past ℚ) → s ≡ stop.Past p →
    StopsAt run s → run ≡ Err (begun.Past p)
is_past run s p e h = subst (StopsAt run) e h

module _ (limit : Option ℕ) (budget : ℕ) where
  -- ---- each method
  -- where the primal run from a tableau ends, the warm start by the primal method ends with that
  pub primal_ends : (t : Tableau) (e : PrimalEnded) → run_from limit budget 0 t ≡ Ok e →
      run_by limit budget t fit.Primal ≡ Ok (ByPrimal e)
  primal_ends t e h = ap (λ o. stopped_as run_stop o >>= λ e. Ok (ByPrimal e)) h

  -- where the dual run from a tableau ends, the warm start by the dual method ends with that
  pub dual_ends : (t : Tableau) (e : DualEnded) → dual_run limit budget t ≡ Ok e →
      run_by limit budget t fit.Dual ≡ Ok (ByDual e)
  dual_ends t e h = ap (λ o. stopped_as run_stop o >>= λ e. Ok (ByDual e)) h

  -- where the primal run from a tableau stops, the warm start by the primal method stops so
  pub primal_stops : (t : Tableau) (s : RunStop ℚ) → run_from limit budget 0 t ≡ Err s →
      run_by limit budget t fit.Primal ≡ Err (run_stop s)
  primal_stops t s h = ap (λ o. stopped_as run_stop o >>= λ e. Ok (ByPrimal e)) h

  -- where the dual run from a tableau stops, the warm start by the dual method stops so
  pub dual_stops : (t : Tableau) (s : RunStop ℚ) → dual_run limit budget t ≡ Err s →
      run_by limit budget t fit.Dual ≡ Err (run_stop s)
  dual_stops t s h = ap (λ o. stopped_as run_stop o >>= λ e. Ok (ByDual e)) h

  -- ---- the run
  -- where making the tableau of the basis stops, the warm start stops so
  pub start_stops : (f : Form) (basis : List Status) (s : StartStop ℚ) → start_from limit f basis ≡ Err s →
      warm_run limit budget f basis ≡ Err (start_stop s)
  unfolding warm_run
  start_stops f basis s h =
      ap (λ o. stopped_as start_stop o >>= λ t. refused_as fall.Past (fit_run limit t) >>= λ fit. run_by limit budget t
      fit) h

  module _ (f : Form) (basis : List Status) (t : Tableau) (starts : start_from limit f basis ≡ Ok t) where
    -- the warm start is the test for which method its tableau is feasible, and then the run by that method
    from_start : warm_run limit budget f basis ≡ (refused_as fall.Past (fit_run limit t) >>= λ fit. run_by limit budget
        t fit)
    unfolding warm_run
    from_start =
        ap (λ o. stopped_as start_stop o >>= λ t. refused_as fall.Past (fit_run limit t) >>= λ fit. run_by limit budget
        t fit) starts

    -- where the test for which method the tableau is feasible is refused an operation, so is the warm start
    pub fit_refused : (p : Past ℚ) → fit_run limit t ≡ Err p → warm_run limit budget f basis ≡ Err (fall.Past p)
    fit_refused p h = from_start ∙ ap (λ o. refused_as fall.Past o >>= λ fit. run_by limit budget t fit) h

    -- where the tableau is feasible for a method, the warm start is the run by this method
    pub runs_by : (kind : Fit) → fit_run limit t ≡ Ok kind → warm_run limit budget f basis ≡ run_by limit budget t kind
    runs_by kind h = from_start ∙ ap (λ o. refused_as fall.Past o >>= λ fit. run_by limit budget t fit) h

  -- ---- the whole
  module _ (m : Model) (f : Form) (basis : List Status) (formed : form_of limit m ≡ Ok f) where
    -- the warm start from the model's form is the warm start of the model
    warm_is : after_form limit budget m basis (Ok f) ≡ warm_start limit budget m basis
    unfolding warm_start
    warm_is = ap (after_form limit budget m basis) (sym formed)

    -- where the warm start ends with an answer, a solve from the basis may end with it, on the route `Warm`
    pub ends_warm : (answer : Known ℚ) (c : Certificate (List ℚ)) (left : Option (List Status)) (pivots : ℕ)
        (w : WarmResult) → w ≡ warm.Ended answer c left pivots → w ≡ after_form limit budget m basis (Ok f) →
        MayEnd limit budget m (Some basis) (record { end = cold.Ended answer c left pivots; route = route.Warm })
    unfolding MayEnd
    ends_warm answer c left pivots w e h =
        subst
        (λ w. MayEndBy limit budget m w (record { end = cold.Ended answer c left pivots; route = route.Warm }))
        (sym e ∙ h ∙ warm_is) refl

    -- where the warm start has stopped, a solve from the basis may end as a cold solve may, on the route `Fell`
    pub falls : (s : WarmStop ℚ) (w : WarmResult) (end : colds.ExactSolveEnd) → w ≡ warm.Stopped s →
        w ≡ after_form limit budget m basis (Ok f) → MayEndCold limit budget m end →
        MayEnd limit budget m (Some basis) (record { end = end; route = route.Fell (fall_of s) })
    unfolding MayEnd
    falls s w end e h may =
        subst (λ w. MayEndBy limit budget m w (record { end = end; route = route.Fell (fall_of s) }))
        (sym e ∙ h ∙ warm_is) (may, refl)

-- ---- without a form there is no starting basis
pub no_starting : {B : Type 0} (limit : Option ℕ) (m : Model) (view : B → List Status) (starting : Option B)
    (why : FormFault ℚ) → form_of limit m ≡ Err why
    → IfSome starting (λ basis. HasBasis limit m (view basis)) → starting ≡ None
no_starting limit m view None why h fits = refl
no_starting limit m view (Some basis) why h fits =
    let z : ◌≡◌ {A = Result Form (FormFault ℚ)} (Ok fits.0) (Err why) = sym fits.1 ∙ h in cc

pub fits_form : {B : Type 0} (limit : Option ℕ) (m : Model) (view : B → List Status) (starting : Option B) (f : Form) →
    form_of limit m ≡ Ok f → IfSome starting (λ basis. HasBasis limit m (view basis)) →
    IfSome starting (λ basis. IsBasisOf f (view basis))
fits_form limit m view None f h fits = fits
fits_form limit m view (Some basis) f h fits =
    let same : ◌≡◌ {A = Result Form (FormFault ℚ)} (Ok fits.0) (Ok f) = sym fits.1 ∙ h in
    let is : fits.0 ≡ f = cc in
    subst (λ f. IsBasisOf f (view basis)) is fits.2

-- ---- what is known of the tableau of a basis
module _ (m : Model) (t : Tableau) (kind : Fit) (k : IsBegun m t kind) where
  -- where the tableau of a basis fits the dual method, the dual run may start from it
  pub can_run : kind ≡ fit.Dual → IsDualStart t
  can_run e =
      let s : BeginsFrom k.form t = start_begins_from (Some number_limit) k.form k.basis t
      (form_proper (Some number_limit) m k.form k.formed) k.fits (few_costs (Some number_limit) m k.form k.formed)
      k.starts
      in
      can_start (Some number_limit) _ _ _ _ _ t s.based (k.fit ∙ ap Ok e)

  -- the warm start from the basis of the tableau is the run from the tableau by the method that it fits
  runs : (budget : ℕ) → warm_run (Some number_limit) budget k.form k.basis ≡ run_by (Some number_limit) budget t kind
  runs budget = runs_by (Some number_limit) budget k.form k.basis t k.starts kind k.fit

-- from a primal feasible basis, the certificate at which the primal run ends is accepted
primal_accepted : (budget : ℕ) (m : Model) (t : Tableau) (e : PrimalEnded) → IsBegun m t fit.Primal →
    run_from (Some number_limit) budget 0 t ≡ Ok e →
    IsAccepted (Some number_limit) m (colds.certificate_at e.tableau e.end)
primal_accepted budget m t e k h =
    run_accepted (Some number_limit) budget m k.form k.basis (ByPrimal e) k.formed k.fits
    (runs m t fit.Primal k budget ∙ primal_ends (Some number_limit) budget t e h)

pub primal_fits : (budget : ℕ) (m : Model) (t : Tableau) (e : PrimalEnded) → IsBegun m t fit.Primal →
    run_from (Some number_limit) budget 0 t ≡ Ok e → IsFor m (colds.certificate_at e.tableau e.end)
primal_fits budget m t e k h =
    let a : IsAccepted (Some number_limit) m (colds.certificate_at e.tableau e.end) = primal_accepted budget m t e k h in a.fits

pub primal_never_no : (budget : ℕ) (m : Model) (t : Tableau) (e : PrimalEnded) → IsBegun m t fit.Primal →
    run_from (Some number_limit) budget 0 t ≡ Ok e → (n : ℕ) →
    check_run (Some number_limit) m (colds.certificate_at e.tableau e.end) ≢ Err (No n)
primal_never_no budget m t e k h =
    never_no (Some number_limit) m (colds.certificate_at e.tableau e.end) (primal_accepted budget m t e k h)

-- from a dual feasible basis, the certificate at which the dual run ends is accepted
dual_accepted : (budget : ℕ) (m : Model) (t : Tableau) (e : DualEnded) → IsBegun m t fit.Dual →
    dual_run (Some number_limit) budget t ≡ Ok e → IsAccepted (Some number_limit) m (dual_certificate e.tableau e.end)
dual_accepted budget m t e k h =
    run_accepted (Some number_limit) budget m k.form k.basis (ByDual e) k.formed k.fits
    (runs m t fit.Dual k budget ∙ dual_ends (Some number_limit) budget t e h)

pub dual_fits : (budget : ℕ) (m : Model) (t : Tableau) (e : DualEnded) → IsBegun m t fit.Dual →
    dual_run (Some number_limit) budget t ≡ Ok e → IsFor m (dual_certificate e.tableau e.end)
dual_fits budget m t e k h =
    let a : IsAccepted (Some number_limit) m (dual_certificate e.tableau e.end) = dual_accepted budget m t e k h in a.fits

pub dual_never_no : (budget : ℕ) (m : Model) (t : Tableau) (e : DualEnded) → IsBegun m t fit.Dual →
    dual_run (Some number_limit) budget t ≡ Ok e → (n : ℕ) →
    check_run (Some number_limit) m (dual_certificate e.tableau e.end) ≢ Err (No n)
dual_never_no budget m t e k h =
    never_no (Some number_limit) m (dual_certificate e.tableau e.end) (dual_accepted budget m t e k h)

-- ---- the bases that are left

-- a model has one form
same_form : (m : Model) (f g : Form) → form_of (Some number_limit) m ≡ Ok f → form_of (Some number_limit) m ≡ Ok g →
    f ≡ g
same_form m f g h k = let z : ◌≡◌ {A = Result Form (FormFault ℚ)} (Ok f) (Ok g) = sym h ∙ k in cc

module _ (budget : ℕ) (m : Model) (f : Form) (t : Tableau) (formed : form_of (Some number_limit) m ≡ Ok f) where
  -- the basis that a primal run from the tableau of a basis leaves, if it leaves one, is one of the form
  pub primal_leaves : (e : PrimalEnded) → IsBegun m t fit.Primal → run_from (Some number_limit) budget 0 t ≡ Ok e →
      IfSome (colds.basis_at e.tableau e.end) (λ basis. IsBasisOf f basis)
  primal_leaves e k h =
      subst (λ f. IfSome (colds.basis_at e.tableau e.end) (λ basis. IsBasisOf f basis))
      (same_form m k.form f k.formed formed)
      (warm_leaves (Some number_limit) budget m k.form k.formed k.basis (ByPrimal e) k.fits
      (runs m t fit.Primal k budget ∙ primal_ends (Some number_limit) budget t e h))

  -- the basis that a dual run from the tableau of a basis leaves, if it leaves one, is one of the form
  pub dual_leaves : (e : DualEnded) → IsBegun m t fit.Dual → dual_run (Some number_limit) budget t ≡ Ok e →
      IfSome (dual_basis e.tableau e.end) (λ basis. IsBasisOf f basis)
  dual_leaves e k h =
      subst (λ f. IfSome (dual_basis e.tableau e.end) (λ basis. IsBasisOf f basis))
      (same_form m k.form f k.formed formed)
      (warm_leaves (Some number_limit) budget m k.form k.formed k.basis (ByDual e) k.fits
      (runs m t fit.Dual k budget ∙ dual_ends (Some number_limit) budget t e h))
