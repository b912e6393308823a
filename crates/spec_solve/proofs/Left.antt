-- The basis that a solve leaves is one of the model's form.
use Rattle.std.proofs.Common.{◌≡◌, ℕ, List, Option, Some, None, IfSome, Result, Ok, Err, refl, sym, ap, ◌∙◌, subst}
use Rattle.spec_exact.specs.Fraction.{ℚ}
use Rattle.spec_exact.specs.Narrow.{number_limit}
use Rattle.spec_model.specs.Model.{Model}
use Rattle.spec_check.specs.declared.certificate.Certificate.{Certificate}
use Rattle.spec_check.specs.declared.certificate.CheckStop.{CheckStop}
use Rattle.spec_check.specs.declared.certificate.CheckStop.TheVariants as check
use Rattle.spec_check.specs.declared.certificate.Known.{Known}
use Rattle.spec_check.specs.Run.{check_run}
use Rattle.spec_pivot.specs.declared.status.Status.{Status}
use Rattle.spec_simplex.specs.declared.ends.RunStop.{RunStop}
use Rattle.spec_simplex.specs.declared.ends.RunStop.TheVariants as stop
use Rattle.spec_simplex.specs.declared.ends.WarmStop.{WarmStop}
use Rattle.spec_simplex.specs.Form.{Form, form_of}
use Rattle.spec_simplex.specs.Eliminate.{IsBasisOf}
use Rattle.spec_simplex.specs.Phases.{PhasesEnd, phases_run}
use Rattle.spec_check.specs.declared.solve_end.SolveEnd.TheVariants.{Ended}
use Rattle.spec_simplex.proofs.LimitStart.{form_without}
use Rattle.spec_runs.specs.Cold.{ExactSolveEnd, certificate_of, basis_of, pivots_of, checked, after_phases, after_form}
use Rattle.spec_runs.specs.Cold.{cold}
use Rattle.spec_runs.specs.declared.ends.Warm.TheVariants as outcome
use Rattle.spec_runs.specs.Warm as warms
use Rattle.spec_runs.specs.Warm.{WarmEnd, WarmResult, warm_run, warm_certificate, warm_basis, warm_pivots, warm}
use Rattle.spec_runs.specs.Solve.{SolveEnd}
use Rattle.spec_runs.proofs.TrueEnds.{run_left, phases_left}
use Rattle.spec_solve.specs.Answers.{ColdFits, WarmFits, IsSolved}

module _ (known : Known ℚ) (c : Certificate (List ℚ)) (left : List Status) (pivots : ℕ) where
  -- where the check of a certificate makes a cold solve's end with a basis, it is the basis that was given to the check
  cold_checked : (d : Certificate (List ℚ)) (basis : Option (List Status)) (n : ℕ)
      (r : Result (Known ℚ) (CheckStop ℚ)) → checked d basis n r ≡ Ended known c (Some left) pivots →
      basis ≡ Some left
  cold_checked d basis n (Ok answer) e = cc
  cold_checked d basis n (Err (check.Past p)) e = cc
  cold_checked d basis n (Err (check.No k)) e = cc

  -- where the check of a certificate makes a warm start's end with a basis, it is the basis that was given to the check
  warm_checked : (d : Certificate (List ℚ)) (basis : Option (List Status)) (n : ℕ)
      (r : Result (Known ℚ) (CheckStop ℚ)) → warms.checked d basis n r ≡ outcome.Ended known c (Some left) pivots →
      basis ≡ Some left
  warm_checked d basis n (Ok answer) e = cc
  warm_checked d basis n (Err (check.Past p)) e = cc
  warm_checked d basis n (Err (check.No k)) e = cc

  -- the basis that a cold solve of a model with a form leaves is a basis of that form
  pub cold_left : (limit : Option ℕ) (budget : ℕ) (m : Model) (f : Form) → form_of limit m ≡ Ok f →
      cold limit budget m ≡ Ended known c (Some left) pivots → IsBasisOf f left
  unfolding cold
  cold_left limit budget m f p e =
      by (phases_run limit budget f) refl (sym (ap (after_form limit budget m) p) ∙ e)
    where
      by : (o : Result PhasesEnd (RunStop ℚ)) → phases_run limit budget f ≡ o →
          after_phases limit m o ≡ Ended known c (Some left) pivots → IsBasisOf f left
      by (Ok e) q z =
          phases_left limit budget m f e left p q
          (cold_checked (certificate_of e) (basis_of e) (pivots_of e) (check_run limit m (certificate_of e)) z)
      by (Err (stop.Past v)) q z = cc
      by (Err stop.Spent) q z = cc

  -- the basis that a warm start from a basis of a model's form leaves is a basis of that form
  pub warm_left : (limit : Option ℕ) (budget : ℕ) (m : Model) (basis : List Status) (f : Form) → form_of limit m ≡ Ok f →
      IsBasisOf f basis → warm limit budget m basis ≡ outcome.Ended known c (Some left) pivots → IsBasisOf f left
  unfolding warm
  warm_left limit budget m basis f p fits e =
      by (warm_run limit budget f basis) refl (sym (ap (warms.after_form limit budget m basis) p) ∙ e)
    where
      by : (o : Result WarmEnd (WarmStop ℚ)) → warm_run limit budget f basis ≡ o →
          warms.after_run limit m o ≡ outcome.Ended known c (Some left) pivots → IsBasisOf f left
      by (Ok e) q z =
          run_left limit budget m f basis e left p fits q
          (warm_checked (warm_certificate e) (warm_basis e) (warm_pivots e) (check_run limit m (warm_certificate e)) z)
      by (Err s) q z = cc

  module _ (m : Model) (budget : ℕ) (f : Form) (p : form_of (Some number_limit) m ≡ Ok f) (solved : SolveEnd)
      (is : solved.end ≡ Ended known c (Some left) pivots) where
    -- the basis left by an end that fits the cold solve is a basis of the model's form
    from_cold : ColdFits m budget solved.end → IsBasisOf f left
    from_cold h =
        cold_left None budget m f (form_without (Some number_limit) m f p) (subst (ColdFits m budget) is h)

    -- the basis left by an end that fits a warm start is a basis of the model's form
    from_basis : (basis : List Status) → IsBasisOf f basis → (r : WarmResult) →
        warm (Some number_limit) budget m basis ≡ r → WarmFits m budget r solved → IsBasisOf f left
    from_basis basis fits (outcome.Ended k d other n) q h =
        let same : ◌≡◌ {A = ExactSolveEnd} (Ended k d other n) (Ended known c (Some left) pivots) =
        sym (ap (λ (s : SolveEnd). s.end) h) ∙ is in
        warm_left (Some number_limit) budget m basis f p fits (q ∙ (let z = same in cc))
    from_basis basis fits (outcome.Stopped s) q h = from_cold h.1

    -- what a solve leaves is a basis of the form, if what was handed to it is
    pub solved_left : (handed : Option (List Status)) → IfSome handed (IsBasisOf f) → IsSolved m budget handed solved →
        IsBasisOf f left
    solved_left None fits s = from_cold s.how_fits.1
    solved_left (Some basis) fits s =
        from_basis basis fits (warm (Some number_limit) budget m basis) refl s.how_fits
