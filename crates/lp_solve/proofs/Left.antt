-- The bases that runs leave are bases of the form.
use Rattle.std.proofs.Common.{◌≡◌, ℕ, List, Option, Some, None, IfSome, Ok, refl}
use Rattle.spec_model.specs.Model.{Model}
use Rattle.spec_pivot.specs.declared.status.Status.{Status}
use Rattle.spec_simplex.specs.Form.{Form, form_of}
use Rattle.spec_simplex.specs.Eliminate.{IsBasisOf}
use Rattle.spec_simplex.specs.Phases.{PhasesEnd, phases_run}
use Rattle.spec_runs.specs.Cold.{basis_of}
use Rattle.spec_runs.specs.Warm.{WarmEnd, warm_run, warm_basis}
use Rattle.spec_runs.proofs.TrueEnds.{run_left, phases_left}

-- where each basis that is left is one of the form, so is what may be left
if_left : (f : Form) (o : Option (List Status)) → ((left : List Status) → o ≡ Some left → IsBasisOf f left) →
    IfSome o (λ basis. IsBasisOf f basis)
if_left f None fits = tt
if_left f (Some left) fits = fits left refl

module _ (limit : Option ℕ) (budget : ℕ) (m : Model) (f : Form) (formed : form_of limit m ≡ Ok f) where
  -- the basis that both phases leave, if they leave one, is one of the form
  pub phases_leave : (e : PhasesEnd) → phases_run limit budget f ≡ Ok e →
      IfSome (basis_of e) (λ basis. IsBasisOf f basis)
  phases_leave e run = if_left f (basis_of e) (λ left is. phases_left limit budget m f e left formed run is)

  -- the basis that a warm start from a basis of the form leaves, if it leaves one, is one of the form
  pub warm_leaves : (basis : List Status) (e : WarmEnd) → IsBasisOf f basis → warm_run limit budget f basis ≡ Ok e →
      IfSome (warm_basis e) (λ basis. IsBasisOf f basis)
  warm_leaves basis e fits run =
      if_left f (warm_basis e) (λ left is. run_left limit budget m f basis e left formed fits run is)
