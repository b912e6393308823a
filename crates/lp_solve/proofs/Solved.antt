-- The cold solve by its form, and certificates that fit their model.
--
-- `start_stop`: a start that stops past 127 bits is refused that operation by the definition.
-- `form_stop`: making a form that stops past 127 bits is refused that operation by the definition.
-- `form_clash`: making a form that stops at a clash stops at that column by the definition.
-- `finishes`: the answer by the certificate of both phases' end is what the cold solve makes of that end.
-- `end_never_no`: the checker never says no to the certificate of both phases' end.
-- `clash_never_no`: the checker never says no to the certificate of bounds that clash.
use Rattle.std.proofs.Common.{◌≡◌, ◌≢◌, ℕ, ◌<◌, Option, Some, None, Result, Ok, Err, refl, sym, subst, ap, ◌∙◌}
use Rattle.spec_exact.specs.Fraction.{ℚ}
use Rattle.spec_exact.specs.declared.past.Past.{Past}
use Rattle.spec_exact.specs.Narrow.{number_limit}
use Rattle.spec_model.specs.Model.{Model, width}
use Rattle.spec_check.specs.declared.certificate.Certificate.TheVariants as certificate
use Rattle.spec_check.specs.declared.certificate.CheckStop.TheVariants.{No}
use Rattle.spec_check.specs.Certificate.{IsFor}
use Rattle.spec_check.specs.Run.{check_run}
use Rattle.spec_simplex.specs.declared.ends.FormFault.{FormFault}
use Rattle.spec_simplex.specs.declared.ends.FormFault.TheVariants as fault
use Rattle.spec_simplex.specs.declared.ends.PrimalEnd.{PrimalEnd}
use Rattle.spec_simplex.specs.Form.{Form, form_of}
use Rattle.spec_simplex.specs.Tableau.{Tableau}
use Rattle.spec_exact.specs.Run.{Run}
use Rattle.spec_simplex.specs.Start.{start_of}
use Rattle.spec_simplex.specs.Phases.{PhasesEnd, phases_run}
use Rattle.spec_check.specs.declared.solve_end.SolveEnd.TheVariants as outcome
use Rattle.spec_runs.specs.Accepted.{IsAccepted}
use Rattle.spec_runs.specs.Cold.{ExactSolveEnd, certificate_of, basis_of, answered, after_phases, after_form, cold}
use Rattle.spec_runs.proofs.ColdSolves.{end_accepted, clash_accepted}
use Rattle.spec_solve.specs.Order.{MayEndCold}
use Rattle.spec_solve.proofs.Orders.{formless_may}
use Rattle.lp_form.specs.Answer.{IsFaultOf}
use Rattle.lp_frac.specs.declared.stop.Stop.{Stop}
use Rattle.lp_form.specs.declared.fault.Clash.{Clash}
use Rattle.lp_tableau.specs.Answer.{Stops}
use Rattle.std.specs.declared.convert.Infallible.{Infallible}
use Rattle.lp_frac.specs.declared.stop.Stop.TheVariants as stop
use Rattle.lp_solve.specs.Ends.{end_by}
use Rattle.lp_solve.proofs.Accepted.{never_no}
use Rattle.lp_solve.proofs.BothPhases.{start_refused}

-- ---- stops as the code has them
pub start_stop : {A : Type 0} (run : Run A) (s : Stop Infallible) (p : Past ℚ) → s ≡ stop.Past p → Stops run s →
    run ≡ Err p
start_stop run s p e h = subst (Stops run) e h

pub form_stop : {A : Type 0} (run : Result A (FormFault ℚ)) (s : Stop Clash) (p : Past ℚ) → s ≡ stop.Past p →
    IsFaultOf run s → run ≡ Err (fault.Past p)
form_stop run s p e h = subst (IsFaultOf run) e h

pub form_clash : {A : Type 0} (run : Result A (FormFault ℚ)) (s : Stop Clash) (clash : Clash) → s ≡ stop.Cause clash →
    IsFaultOf run s → run ≡ Err (fault.Clash clash.column)
form_clash run s clash e h = subst (IsFaultOf run) e h

-- ---- the end of both phases, as the code keeps it
pub finishes : (limit : Option ℕ) (m : Model) (tab : Tableau) (used : ℕ) (end : Option PrimalEnd) →
    answered limit m (certificate_of (end_by tab used end)) (basis_of (end_by tab used end)) used
    ≡ after_phases limit m (Ok (end_by tab used end))
finishes limit m tab used None = refl
finishes limit m tab used (Some end) = refl

-- ---- the solve
module _ (limit : Option ℕ) (budget : ℕ) (m : Model) where
  -- the cold solve from what making the form gives is the cold solve of the model
  pub cold_is : (o : Result Form (FormFault ℚ)) → form_of limit m ≡ o →
      after_form limit budget m o ≡ cold limit budget m
  unfolding cold
  cold_is o h = ap (after_form limit budget m) (sym h)

  -- a model without a form may end cold with what the cold solve makes of the fault that the making of the form has
  pub formless : (why : FormFault ℚ) (end : ExactSolveEnd) → form_of limit m ≡ Err why →
      end ≡ after_form limit budget m (Err why) → MayEndCold limit budget m end
  formless why end h is =
      subst (MayEndCold limit budget m) (sym (is ∙ cold_is (Err why) h)) (formless_may limit budget m why h)

  -- where the start is refused an operation, the cold solve ends with `Past` and this operation
  pub refused_from : (f : Form) (p : Past ℚ) → start_of limit f ≡ Err p →
      ◌≡◌ {A = ExactSolveEnd} (outcome.Past p) (after_phases limit m (phases_run limit budget f))
  refused_from f p h = ap (after_phases limit m) (sym (start_refused limit budget f p h))

  -- the certificate of both phases' end is one for the model
  pub end_fits : (f : Form) (e : PhasesEnd) → form_of limit m ≡ Ok f → phases_run limit budget f ≡ Ok e →
      IsFor m (certificate_of e)
  end_fits f e h g = let a : IsAccepted limit m (certificate_of e) = end_accepted limit budget m f e h g in a.fits

  -- bounds that clash are those of a column of the model
  pub clash_fits : (j : ℕ) → form_of limit m ≡ Err (fault.Clash j) → j < width m
  clash_fits j h = let a : IsAccepted limit m (certificate.Clash j) = clash_accepted limit m j h in a.fits

-- to these the checker does not say no
pub end_never_no : (budget : ℕ) (m : Model) (f : Form) (e : PhasesEnd) → form_of (Some number_limit) m ≡ Ok f →
    phases_run (Some number_limit) budget f ≡ Ok e → (n : ℕ) →
    check_run (Some number_limit) m (certificate_of e) ≢ Err (No n)
end_never_no budget m f e h g =
    never_no (Some number_limit) m (certificate_of e) (end_accepted (Some number_limit) budget m f e h g)

pub clash_never_no : (m : Model) (j : ℕ) → form_of (Some number_limit) m ≡ Err (fault.Clash j) → (n : ℕ) →
    check_run (Some number_limit) m (certificate.Clash j) ≢ Err (No n)
clash_never_no m j h =
    never_no (Some number_limit) m (certificate.Clash j) (clash_accepted (Some number_limit) m j h)
