-- What the two stated runs end with may be answered, of a model that may be kept.
--
-- `part_is_solved`: the stated run of a kept model that has a form is a solve of it from no basis.
-- `stated_is_solved`: the stated cold run over factors of a kept model is a solve of it from no basis.
use Rattle.std.proofs.Common.{◌≡◌, ℕ, List, Option, Some, None, Result, Ok, Err, refl, ◌∙◌, subst}
use Rattle.spec_exact.specs.Fraction.{ℚ}
use Rattle.spec_exact.specs.Narrow.{number_limit}
use Rattle.spec_model.specs.Model.{Model}
use Rattle.spec_model.specs.Kept.{IsModel}
use Rattle.spec_check.specs.declared.certificate.Certificate.{Certificate}
use Rattle.spec_check.specs.declared.certificate.Known.{Known}
use Rattle.spec_check.specs.Certificate.{IsNarrowCertificate}
use Rattle.spec_pivot.specs.declared.status.Status.{Status}
use Rattle.spec_simplex.specs.declared.ends.FormFault.{FormFault}
use Rattle.spec_simplex.specs.Form.{Form, form_of}
use Rattle.spec_check.specs.declared.solve_end.SolveEnd.TheVariants.{Ended, Past, Spent}
use Rattle.spec_runs.specs.Cold.{ExactSolveEnd, cold}
use Rattle.spec_runs.specs.declared.ends.Route.TheVariants as route
use Rattle.spec_factor.specs.Over.{over_factors}
use Rattle.spec_solve.specs.Order.{MayEndCold, or_tableaus, cold_by, cold_over}
use Rattle.spec_solve.specs.Answers.{IsSolved}
use Rattle.spec_solve.proofs.Orders.{part_true, by_may}
use Rattle.spec_solve.proofs.NarrowCold.{cold_narrow}
use Rattle.spec_solve.proofs.NarrowOver.{over_narrow}
use Rattle.spec_solve.proofs.Solves.{cold_solved, formless_solved}

-- the certificate has numbers of at most 127 bits, whichever of both runs ended with it
or_narrow : (known : Known ℚ) (c : Certificate (List ℚ)) (basis : Option (List Status)) (pivots : ℕ) (budget : ℕ)
    (m : Model) (f : Form) (o : ExactSolveEnd) →
    form_of (Some number_limit) m ≡ Ok f → IsModel m → over_factors (Some number_limit) budget m f ≡ o →
    or_tableaus o (cold (Some number_limit) budget m) ≡ Ended known c basis pivots → IsNarrowCertificate c
or_narrow known c basis pivots budget m f (Ended a d b n) formed kept q e =
    over_narrow known c basis pivots budget m f formed kept (q ∙ e)
or_narrow known c basis pivots budget m f (Past p) formed kept q e = cold_narrow known c basis pivots budget m kept e
or_narrow known c basis pivots budget m f Spent formed kept q e = cold_narrow known c basis pivots budget m kept e

pub part_is_solved : (m : Model) (budget : ℕ) (f : Form) → form_of (Some number_limit) m ≡ Ok f → IsModel m →
    IsSolved m budget None (record { end = cold_by (Some number_limit) budget m (Ok f); route = route.Cold })
part_is_solved m budget f formed kept =
    let may : MayEndCold (Some number_limit) budget m (cold_by (Some number_limit) budget m (Ok f)) =
    by_may (Some number_limit) budget m (Ok f) formed in
    cold_solved m budget (cold_by (Some number_limit) budget m (Ok f)) may
    (λ known c basis pivots e. (
      (part_true (Some number_limit) budget m known c basis pivots
          (subst (MayEndCold (Some number_limit) budget m) e may)).1,
      or_narrow known c basis pivots budget m f (over_factors (Some number_limit) budget m f) formed kept refl e,
    ))

pub stated_is_solved : (m : Model) (budget : ℕ) → IsModel m →
    IsSolved m budget None (record { end = cold_over (Some number_limit) budget m; route = route.Cold })
unfolding cold_over
stated_is_solved m budget kept = by (form_of (Some number_limit) m) refl
  where
    by : (r : Result Form (FormFault ℚ)) → form_of (Some number_limit) m ≡ r →
        IsSolved m budget None (record { end = cold_by (Some number_limit) budget m r; route = route.Cold })
    by (Ok f) e = part_is_solved m budget f e kept
    by (Err why) e = formless_solved m budget why e
