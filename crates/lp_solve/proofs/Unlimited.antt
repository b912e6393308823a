-- The certificate and the basis of the end of a run over rows from a basis, without a limit.
use Rattle.std.proofs.Common.{◌≡◌, ℕ, List, Option, Some, None, Ok, IfSome, sym, subst}
use Rattle.spec_exact.specs.Fraction.{ℚ}
use Rattle.spec_exact.specs.Narrow.{number_limit}
use Rattle.spec_model.specs.Model.{Model}
use Rattle.spec_check.specs.Certificate.{IsFor}
use Rattle.spec_pivot.specs.declared.status.Status.{Status}
use Rattle.spec_simplex.specs.Eliminate.{IsBasisOf}
use Rattle.spec_simplex.specs.Form.{Form, form_of}
use Rattle.spec_simplex.proofs.LimitStart.{form_without}
use Rattle.spec_runs.specs.Accepted.{IsAccepted}
use Rattle.spec_runs.specs.Warm.{warm_certificate}
use Rattle.spec_runs.proofs.TrueEnds.{run_accepted}
use Rattle.lp_row_runs.specs.declared.phases.RowEnd.{RowEnd}
use Rattle.lp_row_runs.specs.Warm.{EndsFromBasis}
use Rattle.lp_solve.proofs.Left.{warm_leaves}

module _ (budget : ℕ) (m : Model) (f : Form) (formed : form_of (Some number_limit) m ≡ Ok f)
    (basis from : List Status) (same : from ≡ basis) (fits : IsBasisOf f basis) (e : RowEnd ℚ)
    (ended : EndsFromBasis budget f from e) where
  -- the form at 127 bits is the form without a limit
  without : form_of None m ≡ Ok f
  without = form_without (Some number_limit) m f formed

  -- the run over rows ended from the basis that was given
  ends : EndsFromBasis budget f basis e
  ends = subst (λ from. EndsFromBasis budget f from e) same ended

  -- the certificate of the run over rows is one for the model
  pub warm_fits : IsFor m e.certificate
  warm_fits =
      let a : IsAccepted None m (warm_certificate ends.end) =
      run_accepted None budget m f basis ends.end without fits ends.run in
      subst (IsFor m) (sym ends.certificate) a.fits

  -- the basis that the run over rows leaves, if it leaves one, is one of the form
  pub warm_based : IfSome e.basis (λ left. IsBasisOf f left)
  warm_based =
      subst (λ (o : Option (List Status)). IfSome o (λ left. IsBasisOf f left)) (sym ends.basis)
      (warm_leaves None budget m f without basis ends.end fits ends.run)
