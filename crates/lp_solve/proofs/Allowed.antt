-- What a solve ends with may be answered, by the route that it took.
--
-- `after_stop`: an end of the cold solve may follow a warm start that stopped for the given reason.
-- `cold_is_solved`: without a starting basis a solve may end as the cold solve does.
-- `formless_solved`: a solve of a model without a form may end as without a starting basis, since it has no basis.
-- `starting_fits`: a starting basis of the form is one by its statuses too.
use Rattle.std.proofs.Common.{◌≡◌, ℕ, List, Option, Some, None, IfSome, Result, Ok, Err, IfOk, option_map}
use Rattle.std.proofs.Common.{refl, sym, subst, ◌∙◌}
use Rattle.spec_exact.specs.Fraction.{ℚ}
use Rattle.spec_exact.specs.Narrow.{number_limit}
use Rattle.spec_model.specs.Model.{Model}
use Rattle.spec_check.specs.declared.certificate.Certificate.{Certificate}
use Rattle.spec_check.specs.declared.certificate.Known.{Known}
use Rattle.spec_check.specs.declared.certificate.Known.TheVariants as known
use Rattle.spec_pivot.specs.declared.status.Status.{Status}
use Rattle.spec_simplex.specs.declared.ends.WarmStop.{WarmStop}
use Rattle.spec_simplex.specs.Form.{Form, form_of}
use Rattle.spec_simplex.specs.Eliminate.{IsBasisOf}
use Rattle.spec_check.specs.declared.solve_end.SolveEnd.TheVariants.{Ended}
use Rattle.spec_runs.specs.Cold.{ExactSolveEnd}
use Rattle.spec_runs.specs.declared.ends.Route.{Route}
use Rattle.spec_runs.specs.declared.ends.Route.TheVariants as route
use Rattle.spec_runs.specs.declared.ends.Warm.TheVariants as warm
use Rattle.spec_runs.specs.Warm.{WarmResult, after_form}
use Rattle.spec_runs.specs.Solve.{SolveEnd, solve_end, HasBasis, fall_of}
use Rattle.spec_solve.specs.Order.{MayEndCold, MayEnd}
use Rattle.spec_solve.specs.Answers.{IsSolved}
use Rattle.spec_solve.proofs.Solves.{HasFitEnd, cold_solved, is_solved}
use Rattle.spec_solve.proofs.Left.{solved_left}
use Rattle.lp_solve.specs.Fit.{IsFit, IsWarmFit, LeavesBasis}
use Rattle.lp_solve.specs.Formless.{HasNoForm}
use Rattle.lp_solve.specs.Stopped.{IsAfterStop}
use Rattle.lp_solve.proofs.WarmRuns.{ends_warm, falls, no_starting}

-- where an end is fit, its certificate is one for the model, with numbers of at most 127 bits
fit_end : (m : Model) (end : ExactSolveEnd) → IsFit m end → HasFitEnd m end
fit_end m end fit = λ known c basis pivots is. subst (IsFit m) is fit

-- ---- from a basis of the form
module _ (budget : ℕ) (m : Model) (f : Form) (basis : List Status) (formed : form_of (Some number_limit) m ≡ Ok f)
    (fits : IsBasisOf f basis) where
  -- with a starting basis of the form a solve may end as the definitions of runs let it, if the end is fit
  warm_is_solved : (s : SolveEnd) → MayEnd (Some number_limit) budget m (Some basis) s → IsFit m s.end →
      IsSolved m budget (Some basis) s
  warm_is_solved s may fit = is_solved m budget (Some basis) s (f, formed, fits) may (fit_end m s.end fit)

  -- where the warm start from the basis ends with an answer, a solve may end with it, on the route `Warm`
  pub warm_solved : (answer : Known ℚ) (c : Certificate (List ℚ)) (left : Option (List Status)) (pivots : ℕ)
      (w : WarmResult) → w ≡ warm.Ended answer c left pivots →
      w ≡ after_form (Some number_limit) budget m basis (Ok f) →
      IsWarmFit m w →
      IsSolved m budget (Some basis) (record { end = Ended answer c left pivots; route = route.Warm })
  warm_solved answer c left pivots w e h fit =
      warm_is_solved (record { end = Ended answer c left pivots; route = route.Warm })
      (ends_warm (Some number_limit) budget m f basis formed answer c left pivots w e h) (subst (IsWarmFit m) e fit)

  -- where the warm start from the basis has stopped, a solve may end as a cold solve may, on the route `Fell`
  pub fall_solved : (stop : WarmStop ℚ) (w : WarmResult) (end : ExactSolveEnd) → w ≡ warm.Stopped stop →
      w ≡ after_form (Some number_limit) budget m basis (Ok f) → MayEndCold (Some number_limit) budget m end →
      IsFit m end →
      IsSolved m budget (Some basis) (record { end = end; route = route.Fell (fall_of stop) })
  fall_solved stop w end e h may fit =
      warm_is_solved (record { end = end; route = route.Fell (fall_of stop) })
      (falls (Some number_limit) budget m f basis formed stop w end e h may) fit

  -- where the warm start from the basis has stopped, what may end a solve after that stop may end a solve from the
  -- basis
  pub after_solved : {E : Type 0} (stop : WarmStop ℚ) (w : WarmResult) (r : Result (ExactSolveEnd × Route) E) →
      w ≡ warm.Stopped stop → w ≡ after_form (Some number_limit) budget m basis (Ok f) →
      IfOk r (λ s. IsAfterStop budget m f stop (solve_end s)) → IfOk r (λ s. IsSolved m budget (Some basis) (solve_end s))
  after_solved stop w (Ok s) e h after = after basis fits (sym h ∙ e)
  after_solved stop w (Err why) e h after = tt

-- ---- where the start from a basis has stopped
pub after_stop : (budget : ℕ) (m : Model) (f : Form) (stop : WarmStop ℚ) (end : ExactSolveEnd) →
    form_of (Some number_limit) m ≡ Ok f → MayEndCold (Some number_limit) budget m end → IsFit m end →
    IsAfterStop budget m f stop (record { end = end; route = route.Fell (fall_of stop) })
after_stop budget m f stop end formed may fit = λ basis fits stops.
    fall_solved budget m f basis formed fits stop (warm.Stopped stop) end refl (sym stops) may fit

-- ---- without a starting basis
pub cold_is_solved : (budget : ℕ) (m : Model) (end : ExactSolveEnd) → MayEndCold (Some number_limit) budget m end →
    IsFit m end → IsSolved m budget None (record { end = end; route = route.Cold })
cold_is_solved budget m end may fit = cold_solved m budget end may (fit_end m end fit)

-- a model without a form has no basis
pub formless_solved : {B E : Type 0} (budget : ℕ) (m : Model) (view : B → List Status) (starting : Option B)
    (ended : Result (ExactSolveEnd × Route) E) → IfSome starting (λ basis. HasBasis (Some number_limit) m (view basis)) →
    IfOk ended (λ s. (budget : ℕ) → IsSolved m budget None (solve_end s)) → IfOk ended (λ _. HasNoForm m) →
    IfOk ended (λ s. IsSolved m budget (option_map view starting) (solve_end s))
formless_solved budget m view starting (Err why) fits solved formless = tt
formless_solved budget m view starting (Ok s) fits solved formless =
    subst (λ starting. IsSolved m budget (option_map view starting) (solve_end s))
    (sym (no_starting (Some number_limit) m view starting formless.0 formless.1 fits)) (solved budget)

-- ---- the basis that is left
pub starting_fits : {B : Type 0} (view : B → List Status) (f : Form) (starting : Option B) →
    IfSome starting (λ basis. IsBasisOf f (view basis)) → IfSome (option_map view starting) (IsBasisOf f)
starting_fits view f None fits = tt
starting_fits view f (Some basis) fits = fits

module _ {B : Type 0} (budget : ℕ) (m : Model) (f : Form) (view : B → List Status) (starting : Option B)
    (formed : form_of (Some number_limit) m ≡ Ok f) (fits : IfSome starting (λ basis. IsBasisOf f (view basis))) where
  -- the basis with which a solve may end, from a basis of the form or from none, is one of the form
  pub solve_leaves : (s : SolveEnd) → IsSolved m budget (option_map view starting) s → LeavesBasis f s.end
  solve_leaves s h = by s.end refl
    where
      by : (end : ExactSolveEnd) → s.end ≡ end → LeavesBasis f end
      by (Ended (known.Optimal v) c (Some left) pivots) is =
          solved_left (known.Optimal v) c left pivots m budget f formed s is (option_map view starting)
          (starting_fits view f starting fits) h
      by end is = tt

  -- the basis that is left by a result with which a solve may end is one of the form; without memory nothing is asked
  pub solves_leave : {E : Type 0} (r : Result (ExactSolveEnd × Route) E) →
      IfOk r (λ s. IsSolved m budget (option_map view starting) (solve_end s)) → IfOk r (λ s. LeavesBasis f s.0)
  solves_leave (Ok s) h = solve_leaves (solve_end s) h
  solves_leave (Err why) h = tt
