-- What a warm start ends with is true.
--
-- `run_accepted`: the certificate of what a run from a basis of the form ends with is accepted, unless an operation is
--   refused.
-- `run_left`: the basis that a run from a basis of the form leaves is one of the form again.
-- `phases_left`: the basis that both phases leave is one of the form.
-- `ended_is_true`: the answer of a warm start from a basis of the model's form holds of the model, and the check of its
--   certificate gives that answer.
-- `stopped_is_stopped`: a warm start from a basis of the model's form that stops, but for a refused operation, stops as
--   the run from this basis does.
use Rattle.std.proofs.Common.{◌≡◌, ◌≢◌, ℕ, List, Option, Some, None, Result, Ok, Err, refl, sym, ap, ◌∙◌, subst}
use Rattle.spec_exact.specs.Fraction.{ℚ}
use Rattle.spec_exact.specs.declared.past.Past.{Past}
use Rattle.spec_model.specs.Model.{Model}
use Rattle.spec_check.specs.declared.certificate.Certificate.{Certificate}
use Rattle.spec_check.specs.declared.certificate.Certificate.TheVariants as certificate
use Rattle.spec_check.specs.declared.certificate.Known.{Known}
use Rattle.spec_check.specs.Certificate.{shown, Holds}
use Rattle.spec_check.specs.Run.{check_run}
use Rattle.spec_pivot.specs.declared.status.Status.{Status}
use Rattle.spec_simplex.specs.declared.ends.FormFault.{FormFault}
use Rattle.spec_simplex.specs.declared.ends.FormFault.TheVariants as fault
use Rattle.spec_simplex.specs.declared.ends.PrimalEnd.{PrimalEnd}
use Rattle.spec_simplex.specs.declared.ends.PrimalEnd.TheVariants as primal
use Rattle.spec_simplex.specs.Form.{Form, formed, form_of}
use Rattle.spec_simplex.specs.Phases.{PhasesEnd, Infeasible, Finished, phases_run}
use Rattle.spec_exact.specs.Run.{made}
use Rattle.spec_simplex.specs.Start.{cost_at, start_at}
use Rattle.spec_simplex.specs.Tableau.{form_columns}
use Rattle.spec_runs.specs.Cold as cold
use Rattle.spec_runs.specs.Accepted.{IsAccepted}
use Rattle.spec_simplex.specs.Begins.{signs_of}
use Rattle.spec_simplex.proofs.FirstTableau.{sign_square}
use Rattle.spec_simplex.proofs.FormOfModel.{form_is}
use Rattle.spec_simplex.proofs.Phases.{phases_finish}
use Rattle.spec_runs.proofs.ColdSolves.{IsTrueEnd, by_accepted, end_is_true, accepted, clash_accepted}
use Rattle.spec_runs.specs.declared.ends.Warm.TheVariants as outcome
use Rattle.spec_simplex.specs.declared.ends.WarmStop.{WarmStop}
use Rattle.spec_simplex.specs.declared.ends.WarmStop.TheVariants as fall
use Rattle.spec_simplex.specs.Eliminate.{IsBasisOf}
use Rattle.spec_runs.specs.Warm.{WarmEnd, WarmResult, warm_run, warm_certificate, warm_basis}
use Rattle.spec_runs.specs.Warm.{warm_pivots, checked, answered, after_run, after_form, warm, IsBasisFor}
use Rattle.spec_runs.proofs.EndBases.{basis_fits}
use Rattle.spec_runs.proofs.Warmed.{warm_shows, warm_left}

pub run_accepted : (limit : Option ℕ) (budget : ℕ) (m : Model) (f : Form) (basis : List Status) (e : WarmEnd) →
    form_of limit m ≡ Ok f → IsBasisOf f basis → warm_run limit budget f basis ≡ Ok e
    → IsAccepted limit m (warm_certificate e)
run_accepted limit budget m f basis e p fits q =
    let o = form_is limit m f p in
    accepted limit m (warm_certificate e)
    (warm_shows limit m o.0 o.1 budget basis e (subst (λ f. IsBasisOf f basis) (sym o.2) fits)
    (ap (λ f. warm_run limit budget f basis) o.2 ∙ q))

-- ---- the bases of ends
pub run_left : (limit : Option ℕ) (budget : ℕ) (m : Model) (f : Form) (basis : List Status) (e : WarmEnd)
    (left : List Status) → form_of limit m ≡ Ok f → IsBasisOf f basis → warm_run limit budget f basis ≡ Ok e
    → warm_basis e ≡ Some left → IsBasisOf f left
run_left limit budget m f basis e left p fits q r =
    let o = form_is limit m f p in
    subst (λ f. IsBasisOf f left) o.2
    (warm_left limit m o.0 o.1 budget basis e (subst (λ f. IsBasisOf f basis) (sym o.2) fits)
    (ap (λ f. warm_run limit budget f basis) o.2 ∙ q) left r)

pub phases_left : (limit : Option ℕ) (budget : ℕ) (m : Model) (f : Form) (e : PhasesEnd) (left : List Status) →
    form_of limit m ≡ Ok f → phases_run limit budget f ≡ Ok e → cold.basis_of e ≡ Some left → IsBasisOf f left
phases_left limit budget m f (Infeasible t used) left p q r = let z : None ≡ Some left = r in cc
phases_left limit budget m f (Finished e) left p q r =
    let o = form_is limit m f p in
    let d = phases_finish limit m o.0 o.1 budget (Finished e) (ap (phases_run limit budget) o.2 ∙ q) in
    subst (λ f. IsBasisOf f left) o.2
    (by e.end r (basis_fits (formed m o.0) (signs_of d.starts) (λ i. sign_square (start_at d.starts i))
    (cost_at (formed m o.0).cost) d.bounds d.bounded e.tableau d.after.rows d.after.cols d.after.tableau))
  where
    by : {f : Form} (end : PrimalEnd) → cold.basis_at e.tableau end ≡ Some left →
        IsBasisOf f (made (form_columns e.tableau) (cold.basis_status e.tableau)) → IsBasisOf f left
    by primal.Optimal r h =
        let z : made (form_columns e.tableau) (cold.basis_status e.tableau) ≡ left = cc in subst (IsBasisOf _) z h
    by (primal.Unbounded j way) r h = let z : None ≡ Some left = r in cc

-- ---- by what the checker says
module _ (limit : Option ℕ) (budget : ℕ) (m : Model) (basis : List Status)
    (fits : IsBasisFor limit m basis) (P : WarmResult → Type 0)
    (ended : (answer : Known ℚ) (c : Certificate (List ℚ)) (left : Option (List Status)) (pivots : ℕ) →
    IsTrueEnd limit m answer c → P (outcome.Ended answer c left pivots))
    (past : (p : Past ℚ) → P (outcome.Stopped (fall.Past p)))
    (stopped : (f : Form) (s : WarmStop ℚ) → form_of limit m ≡ Ok f →
    warm_run limit budget f basis ≡ Err s → P (outcome.Stopped s)) where
  by_check : (c : Certificate (List ℚ)) (left : Option (List Status)) (pivots : ℕ) → IsAccepted limit m c →
      P (answered limit m c left pivots)
  by_check c left pivots a =
      by_accepted limit m c a (λ o. P (checked c left pivots o))
      (λ e. ended (shown m c) c left pivots (record { accepted = a; checks = e })) past

  pub by_end : P (warm limit budget m basis)
  unfolding warm
  by_end = with_form (form_of limit m) refl
    where
      with_run : (f : Form) → form_of limit m ≡ Ok f → (o : Result WarmEnd (WarmStop ℚ)) →
          warm_run limit budget f basis ≡ o → P (after_run limit m o)
      with_run f p (Ok e) q =
          by_check (warm_certificate e) (warm_basis e) (warm_pivots e)
          (run_accepted limit budget m f basis e p (fits f p) q)
      with_run f p (Err s) q = stopped f s p q

      with_form : (o : Result Form (FormFault ℚ)) → form_of limit m ≡ o → P (after_form limit budget m basis o)
      with_form (Ok f) p = with_run f p (warm_run limit budget f basis) refl
      with_form (Err (fault.Clash j)) p = by_check (certificate.Clash j) None 0 (clash_accepted limit m j p)
      with_form (Err (fault.Past v)) p = past v

-- ---- the laws
pub ended_is_true : (limit : Option ℕ) (budget : ℕ) (m : Model) (basis : List Status) (answer : Known ℚ)
    (c : Certificate (List ℚ)) (left : Option (List Status)) (pivots : ℕ) → IsBasisFor limit m basis
    → warm limit budget m basis ≡ outcome.Ended answer c left pivots →
    Holds m answer × (check_run limit m c ≡ Ok answer)
ended_is_true limit budget m basis answer c left pivots fits =
    by_end limit budget m basis fits
    (λ e. e ≡ outcome.Ended answer c left pivots → Holds m answer × (check_run limit m c ≡ Ok answer))
    (λ a d left' pivots' t e.
    let x : a ≡ answer = cc in let z : d ≡ c = cc in end_is_true limit m a answer d c t x z)
    (λ p e. let z : ◌≡◌ {A = WarmResult} (outcome.Stopped (fall.Past p)) (outcome.Ended answer c left pivots) = e in cc)
    (λ f s p q e. let z : ◌≡◌ {A = WarmResult} (outcome.Stopped s) (outcome.Ended answer c left pivots) = e in cc)

pub stopped_is_stopped : (limit : Option ℕ) (budget : ℕ) (m : Model) (basis : List Status) (s : WarmStop ℚ) →
    IsBasisFor limit m basis → ((p : Past ℚ) → s ≢ fall.Past p) → warm limit budget m basis ≡ outcome.Stopped s
    → (f : Form) × (form_of limit m ≡ Ok f) × (warm_run limit budget f basis ≡ Err s)
stopped_is_stopped limit budget m basis s fits not_past =
    by_end limit budget m basis fits
    (λ e. e ≡ outcome.Stopped s → (f : Form) × (form_of limit m ≡ Ok f) × (warm_run limit budget f basis ≡ Err s))
    (λ a d left pivots t e. let z : ◌≡◌ {A = WarmResult} (outcome.Ended a d left pivots) (outcome.Stopped s) = e in cc)
    (λ p e. absurd (not_past p (let z : fall.Past p ≡ s = cc in sym z)))
    (λ f x p q e. (f, p, q ∙ (let z : x ≡ s = cc in ap Err z)))
