-- The run over factors and its check.
use Rattle.std.proofs.Common.{◌≡◌, ◌≢◌, ◌⊎◌, inl, inr, ℕ, List, Option, Some, None, Result, Ok, Err, IfOk, IfSome}
use Rattle.std.proofs.Common.{refl, sym, ap, ◌∙◌, subst}
use Rattle.spec_exact.specs.Fraction.{ℚ}
use Rattle.spec_exact.specs.declared.past.Past.{Past}
use Rattle.spec_exact.specs.Narrow.{number_limit}
use Rattle.spec_model.specs.Model.{Model}
use Rattle.spec_check.specs.declared.certificate.Certificate.{Certificate}
use Rattle.spec_check.specs.declared.certificate.Known.{Known}
use Rattle.spec_check.specs.declared.certificate.CheckStop.TheVariants.{No}
use Rattle.spec_check.specs.Certificate.{IsFor}
use Rattle.spec_check.specs.Run.{check_run}
use Rattle.spec_pivot.specs.declared.status.Status.{Status}
use Rattle.spec_simplex.specs.declared.ends.RunStop.{RunStop}
use Rattle.spec_simplex.specs.Form.{Form, form_of}
use Rattle.spec_simplex.specs.Eliminate.{IsBasisOf}
use Rattle.spec_simplex.specs.Phases.{PhasesEnd, phases_run}
use Rattle.spec_check.specs.declared.solve_end.SolveEnd.TheVariants as outcome
use Rattle.spec_simplex.proofs.LimitStart.{form_without}
use Rattle.spec_runs.specs.Accepted.{IsAccepted}
use Rattle.spec_runs.specs.Cold.{ExactSolveEnd, certificate_of, basis_of, pivots_of, answered, cold, after_form}
use Rattle.spec_runs.proofs.ColdSolves.{end_accepted}
use Rattle.spec_factor.specs.Over.{OverEnd, over_run, answer_of, answer_in, after_over, over_factors}
use Rattle.spec_solve.specs.Order.{GivesUp, MayEndCold, or_tableaus, cold_by, cold_over}
use Rattle.spec_solve.proofs.Orders.{part_may, part_kept, checked_may}
use Rattle.lp_revised.specs.declared.cold_run.RunEnd.{RunEnd}
use Rattle.lp_frac.specs.declared.stop.Stop.{Stop}
use Rattle.lp_revised.specs.declared.stop.Spent.{Spent}
use Rattle.lp_frac.specs.declared.stop.Stop.TheVariants as revised
use Rattle.lp_revised.specs.Answer.{StopsRevised}
use Rattle.lp_revised.specs.Runs.{over_end}
use Rattle.lp_solve.specs.declared.strategy.Engine.{Engine}
use Rattle.lp_solve.specs.declared.strategy.Engine.TheVariants.{Factors, Tableaus}
use Rattle.lp_solve.specs.Strategy.{IsRunOf}
use Rattle.lp_solve.proofs.Accepted.{never_no}
use Rattle.lp_solve.proofs.Left.{phases_leave}
use Rattle.lp_solve.proofs.Solved.{cold_is}

module _ (budget : ℕ) (m : Model) (f : Form) (formed : form_of (Some number_limit) m ≡ Ok f) where
  -- ---- the run over factors
  -- the certificate of the run over factors is accepted without a limit, as that of the run over whole tableaus
  over_is_accepted : (e : RunEnd) → answer_in (phases_run None budget f) ≡ Ok (over_end e) → IsAccepted None m e.certificate
  over_is_accepted e = by (phases_run None budget f) refl
    where
      by : (o : Result PhasesEnd (RunStop ℚ)) → phases_run None budget f ≡ o → answer_in o ≡ Ok (over_end e) →
          IsAccepted None m e.certificate
      by (Ok end) q h =
          let same : answer_of end ≡ over_end e = cc in
          subst (λ (o : OverEnd). IsAccepted None m o.certificate) same
          (end_accepted None budget m f end (form_without (Some number_limit) m f formed) q)
      by (Err s) q h = let z : ◌≡◌ {A = Result OverEnd (RunStop ℚ)} (Err s) (Ok (over_end e)) = h in cc

  -- the certificate of the run over factors is one for the model
  pub over_fits : (e : RunEnd) → answer_in (phases_run None budget f) ≡ Ok (over_end e) → IsFor m e.certificate
  over_fits e h = let a : IsAccepted None m e.certificate = over_is_accepted e h in a.fits

  -- the checker at 127 bits never says no to the certificate of the run over factors
  pub over_accepted : (e : RunEnd) → answer_in (phases_run None budget f) ≡ Ok (over_end e) → (n : ℕ) →
      check_run (Some number_limit) m e.certificate ≢ Err (No n)
  over_accepted e h = never_no None m e.certificate (over_is_accepted e h)

  -- the basis that the run over factors leaves, if it leaves one, is one of the form
  pub over_leaves : (e : RunEnd) → answer_in (phases_run None budget f) ≡ Ok (over_end e) →
      IfSome e.basis (λ basis. IsBasisOf f basis)
  over_leaves e = by (phases_run None budget f) refl
    where
      by : (o : Result PhasesEnd (RunStop ℚ)) → phases_run None budget f ≡ o → answer_in o ≡ Ok (over_end e) →
          IfSome e.basis (λ basis. IsBasisOf f basis)
      by (Ok end) q h =
          let same : answer_of end ≡ over_end e = cc in
          subst (λ (o : OverEnd). IfSome o.basis (λ basis. IsBasisOf f basis)) same
          (phases_leave None budget m f (form_without (Some number_limit) m f formed) end q)
      by (Err s) q h = let z : ◌≡◌ {A = Result OverEnd (RunStop ℚ)} (Err s) (Ok (over_end e)) = h in cc

  -- what the checker answers to the certificate of the run over factors at 127 bits is the stated end of that run
  pub over_ends : (e : RunEnd) (end : ExactSolveEnd) → over_run (Some number_limit) budget f ≡ Ok (over_end e) →
      end ≡ answered (Some number_limit) m e.certificate e.basis e.pivots →
      end ≡ over_factors (Some number_limit) budget m f
  unfolding over_factors
  over_ends e end h is = is ∙ sym (ap (after_over (Some number_limit) m) h)

  -- where the run over factors is refused an operation, its stated end is `Past` with this operation
  pub past_stops : (s : Stop Spent) (p : Past ℚ) → s ≡ revised.Past p →
      StopsRevised (over_run (Some number_limit) budget f) s →
      ◌≡◌ {A = ExactSolveEnd} (outcome.Past p) (over_factors (Some number_limit) budget m f)
  unfolding over_factors
  past_stops s p e h =
      sym (ap (after_over (Some number_limit) m) (subst (StopsRevised (over_run (Some number_limit) budget f)) e h))

  -- where the run over factors spends its budget, its stated end is `Spent`
  pub spent_stops : (s : Stop Spent) (why : Spent) → s ≡ revised.Cause why →
      StopsRevised (over_run (Some number_limit) budget f) s →
      ◌≡◌ {A = ExactSolveEnd} outcome.Spent (over_factors (Some number_limit) budget m f)
  unfolding over_factors
  spent_stops s why e h =
      sym (ap (after_over (Some number_limit) m) (subst (StopsRevised (over_run (Some number_limit) budget f)) e h))

  -- ---- both runs
  -- the cold solve by factors and then by tableaus, from the model's form, is the stated one of the model
  part_is : cold_by (Some number_limit) budget m (Ok f) ≡ cold_over (Some number_limit) budget m
  unfolding cold_over
  part_is = ap (cold_by (Some number_limit) budget m) (sym formed)

  -- the end of the run over factors, or where that gives up of the one over tableaus, is the stated cold solve
  or_is : (o : ExactSolveEnd) → o ≡ over_factors (Some number_limit) budget m f →
      or_tableaus o (cold (Some number_limit) budget m) ≡ cold_over (Some number_limit) budget m
  or_is o h = ap (λ o. or_tableaus o (cold (Some number_limit) budget m)) h ∙ part_is

  -- where the run over factors ends with an answer, the stated cold solve ends with the same
  ended_over : (o : ExactSolveEnd) (known : Known ℚ) (c : Certificate (List ℚ)) (basis : Option (List Status)) (pivots : ℕ) →
      o ≡ outcome.Ended known c basis pivots → o ≡ over_factors (Some number_limit) budget m f →
      o ≡ cold_over (Some number_limit) budget m
  ended_over o known c basis pivots is h = is ∙ or_is (outcome.Ended known c basis pivots) (sym is ∙ h)

  -- the stated cold solve ends as that over whole tableaus, or the one over whole tableaus gives up
  cold_kept : (cold_over (Some number_limit) budget m ≡ cold (Some number_limit) budget m)
      ⊎ GivesUp (cold (Some number_limit) budget m)
  cold_kept = part_kept (Some number_limit) budget m (cold_over (Some number_limit) budget m) (part_may
      (Some number_limit) budget m)

  -- where the cold solve over whole tableaus ends with an answer, the stated cold solve ends with the same
  ended_cold : (o : ExactSolveEnd) (known : Known ℚ) (c : Certificate (List ℚ)) (basis : Option (List Status)) (pivots : ℕ) →
      o ≡ outcome.Ended known c basis pivots → o ≡ cold (Some number_limit) budget m →
      o ≡ cold_over (Some number_limit) budget m
  ended_cold o known c basis pivots is whole = whole ∙ kept cold_kept
    where
      kept : (cold_over (Some number_limit) budget m ≡ cold (Some number_limit) budget m)
          ⊎ GivesUp (cold (Some number_limit) budget m) → cold (Some number_limit) budget m ≡ cold_over
          (Some number_limit) budget m
      kept (inl e) = sym e
      kept (inr up) = absurd (subst GivesUp (sym whole ∙ is) up)

  -- the cold solve may end as the stated one does
  stated_may : (o : ExactSolveEnd) → o ≡ cold_over (Some number_limit) budget m →
      MayEndCold (Some number_limit) budget m o
  stated_may o is = subst (MayEndCold (Some number_limit) budget m) (sym is) (part_may (Some number_limit) budget m)

  -- ---- what each engine ends with
  -- the engine over factors may end as the stated run over factors does
  pub factors_run : (engine : Engine) (end : ExactSolveEnd) → engine ≡ Factors →
      end ≡ over_factors (Some number_limit) budget m f → IsRunOf budget m f engine end
  factors_run engine end is h = subst (λ engine. IsRunOf budget m f engine end) (sym is) (by end h)
    where
      by : (end : ExactSolveEnd) → end ≡ over_factors (Some number_limit) budget m f → IsRunOf budget m f Factors end
      by (outcome.Ended known c basis pivots) h =
          stated_may _ (ended_over (outcome.Ended known c basis pivots) known c basis pivots refl h)
      by (outcome.Past p) h = subst GivesUp h tt
      by outcome.Spent h = subst GivesUp h tt

  -- the engine over whole tableaus may end as the cold solve over whole tableaus does
  pub tableaus_run : {E : Type 0} (r : Result ExactSolveEnd E) →
      IfOk r (λ s. s ≡ after_form (Some number_limit) budget m (Ok f)) → IfOk r (IsRunOf budget m f Tableaus)
  tableaus_run (Ok (outcome.Ended known c basis pivots)) h =
      stated_may _ (ended_cold (outcome.Ended known c basis pivots) known c basis pivots refl
      (h ∙ cold_is (Some number_limit) budget m (Ok f) formed))
  tableaus_run (Ok (outcome.Past p)) h = (tt, h ∙ cold_is (Some number_limit) budget m (Ok f) formed)
  tableaus_run (Ok outcome.Spent) h = (tt, h ∙ cold_is (Some number_limit) budget m (Ok f) formed)
  tableaus_run (Err e) h = tt

  -- The cold solve may end with the answer of any run that ends as both phases do without a limit, if the checker says
  -- yes to its certificate at 127 bits.
  pub other_may : (a : OverEnd) (end : ExactSolveEnd) (known : Known ℚ) (c : Certificate (List ℚ))
      (basis : Option (List Status)) (pivots : ℕ) →
      answer_in (phases_run None budget f) ≡ Ok a →
      end ≡ answered (Some number_limit) m a.certificate a.basis a.pivots → end ≡ outcome.Ended known c basis pivots →
      MayEndCold (Some number_limit) budget m end
  other_may a end known c basis pivots ends is ended = by (phases_run None budget f) refl ends
    where
      either : (e : PhasesEnd) → end ≡ answered (Some number_limit) m (certificate_of e) (basis_of e) (pivots_of e) →
          MayEndCold (Some number_limit) budget m (answered (Some number_limit) m (certificate_of e) (basis_of e)
          (pivots_of e))
          ⊎ GivesUp (answered (Some number_limit) m (certificate_of e) (basis_of e) (pivots_of e)) →
          MayEndCold (Some number_limit) budget m end
      either e same (inl may) = subst (MayEndCold (Some number_limit) budget m) (sym same) may
      either e same (inr up) = absurd (subst GivesUp (sym same ∙ ended) up)

      by : (o : Result PhasesEnd (RunStop ℚ)) → phases_run None budget f ≡ o → answer_in o ≡ Ok a →
          MayEndCold (Some number_limit) budget m end
      by (Ok e) q h =
          let same : answer_of e ≡ a = cc in
          either e
          (is ∙ ap (λ (a : OverEnd). answered (Some number_limit) m a.certificate a.basis a.pivots) (sym same))
          (checked_may (Some number_limit) budget m f formed e q)
      by (Err s) q h = let z : ◌≡◌ {A = Result OverEnd (RunStop ℚ)} (Err s) (Ok a) = h in cc
