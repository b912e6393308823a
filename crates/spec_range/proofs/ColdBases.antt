-- The basis of an answer of the cold solve keeps the model.
use Rattle.std.proofs.Common.{◌≡◌, ℕ, List, Option, Some, None, Result, Ok, Err, refl}
use Rattle.spec_exact.specs.Fraction.{ℚ}
use Rattle.spec_model.specs.Model.{Model}
use Rattle.spec_check.specs.declared.certificate.Certificate.{Certificate}
use Rattle.spec_check.specs.declared.certificate.Certificate.TheVariants as certificate
use Rattle.spec_check.specs.declared.certificate.Known.{Known}
use Rattle.spec_check.specs.declared.certificate.CheckStop.{CheckStop}
use Rattle.spec_check.specs.declared.certificate.CheckStop.TheVariants as check
use Rattle.spec_check.specs.declared.solve_end.SolveEnd.TheVariants as outcome
use Rattle.spec_check.specs.Run.{check_run}
use Rattle.spec_pivot.specs.declared.status.Status.{Status}
use Rattle.spec_simplex.specs.declared.ends.FormFault.{FormFault}
use Rattle.spec_simplex.specs.declared.ends.FormFault.TheVariants as fault
use Rattle.spec_simplex.specs.declared.ends.RunStop.{RunStop}
use Rattle.spec_simplex.specs.declared.ends.RunStop.TheVariants as stop
use Rattle.spec_simplex.specs.Form.{Form, form_of}
use Rattle.spec_simplex.specs.Phases.{PhasesEnd, phases_run}
use Rattle.spec_runs.specs.Cold.{ExactSolveEnd, checked, after_phases, after_form, cold, basis_of}
use Rattle.spec_runs.specs.Cold.{certificate_of, pivots_of}
use Rattle.spec_range.specs.Span.{Keeps}
use Rattle.spec_range.proofs.EndBases.{bases_keep}

module _ (limit : Option ℕ) (budget : ℕ) (m : Model) (answer : Known ℚ) (cert : Certificate (List ℚ))
    (left : List Status) (pivots : ℕ) where
  -- the end of the cold solve with this answer, certificate, basis and count of pivots
  abbrev end : ExactSolveEnd
  end = outcome.Ended answer cert (Some left) pivots

  -- where the check of a certificate ends with an answer and a basis, that is the basis that was given to the check
  basis_is : (c : Certificate (List ℚ)) (basis : Option (List Status)) (p : ℕ) (o : Result (Known ℚ) (CheckStop ℚ)) →
      checked c basis p o ≡ outcome.Ended answer cert (Some left) pivots → basis ≡ Some left
  basis_is c basis p (Ok a) h =
      let z : ◌≡◌ {A = ExactSolveEnd} (outcome.Ended a c basis p) (outcome.Ended answer cert (Some left) pivots) = h in cc
  basis_is c basis p (Err (check.Past q)) h =
      let z : ◌≡◌ {A = ExactSolveEnd} (outcome.Past q) (outcome.Ended answer cert (Some left) pivots) = h in cc
  basis_is c basis p (Err (check.No n)) h =
      let z : ◌≡◌ {A = ExactSolveEnd} outcome.Spent (outcome.Ended answer cert (Some left) pivots) = h in cc

  -- where the cold solve of a model ends with an answer and a basis, this basis keeps the model
  pub cold_keeps : cold limit budget m ≡ outcome.Ended answer cert (Some left) pivots → Keeps m left
  unfolding cold
  cold_keeps h = with_form (form_of limit m) refl h
    where
      with_phases : (f : Form) → form_of limit m ≡ Ok f → (o : Result PhasesEnd (RunStop ℚ)) →
          phases_run limit budget f ≡ o → after_phases limit m o ≡ end → Keeps m left
      with_phases f p (Ok e) q h =
          bases_keep limit budget m f e left p q
          (basis_is (certificate_of e) (basis_of e) (pivots_of e) (check_run limit m (certificate_of e)) h)
      with_phases f p (Err (stop.Past v)) q h =
          let z : ◌≡◌ {A = ExactSolveEnd} (outcome.Past v) end = h in cc
      with_phases f p (Err stop.Spent) q h = let z : ◌≡◌ {A = ExactSolveEnd} outcome.Spent end = h in cc

      with_form : (o : Result Form (FormFault ℚ)) → form_of limit m ≡ o → after_form limit budget m o ≡ end →
          Keeps m left
      with_form (Ok f) p h = with_phases f p (phases_run limit budget f) refl h
      with_form (Err (fault.Clash j)) p h =
          let z : None ≡ Some left =
          basis_is (certificate.Clash j) None 0 (check_run limit m (certificate.Clash j)) h in cc
      with_form (Err (fault.Past v)) p h = let z : ◌≡◌ {A = ExactSolveEnd} (outcome.Past v) end = h in cc
