-- What a solve ends with is one of the ends that a solve may have, where its certificate is one for the model with
-- narrow numbers.
use Rattle.std.proofs.Common.{◌≡◌, ℕ, ◌<◌, Bool, true, false, leb, leb-true, List, Option, Some, None, IfSome, Ok, Err}
use Rattle.std.proofs.Common.{refl, sym, ap, ◌∙◌, subst}
use Rattle.std.proofs.lemmas.Bool.{leb-false}
use Rattle.spec_exact.specs.Fraction.{ℚ}
use Rattle.spec_exact.specs.Narrow.{number_limit}
use Rattle.spec_model.specs.Model.{Model}
use Rattle.spec_check.specs.declared.certificate.Certificate.{Certificate}
use Rattle.spec_check.specs.declared.certificate.Certificate.TheVariants as certificate
use Rattle.spec_check.specs.declared.certificate.CheckStop.TheVariants as check
use Rattle.spec_check.specs.declared.certificate.Known.{Known}
use Rattle.spec_check.specs.Certificate.{IsFor, IsNarrowCertificate}
use Rattle.spec_check.specs.Run.{Run, check_run}
use Rattle.spec_pivot.specs.declared.status.Status.{Status}
use Rattle.spec_simplex.specs.declared.ends.FormFault.{FormFault}
use Rattle.spec_simplex.specs.declared.ends.FormFault.TheVariants as fault
use Rattle.spec_simplex.specs.Form.{Form, form_of}
use Rattle.spec_simplex.specs.Eliminate.{IsBasisOf}
use Rattle.spec_check.specs.declared.solve_end.SolveEnd.TheVariants.{Ended, Past, Spent}
use Rattle.spec_runs.specs.Cold.{ExactSolveEnd, checked, after_form, cold}
use Rattle.spec_runs.proofs.ColdSolves.{by_end, enough}
use Rattle.spec_runs.specs.declared.ends.Route.TheVariants as route
use Rattle.spec_runs.specs.declared.ends.Warm.TheVariants as warm
use Rattle.spec_runs.specs.Warm.{WarmResult, warm as warm_start}
use Rattle.spec_runs.specs.Solve.{SolveEnd, HasBasis}
use Rattle.spec_runs.proofs.TrueEnds as warm_ends
use Rattle.spec_factor.specs.Over.{over_factors}
use Rattle.spec_solve.specs.Order.{GivesUp, MayEndCold, Answered, GaveUp, MayEndBy, MayEnd}
use Rattle.spec_solve.proofs.Orders as orders
use Rattle.spec_solve.proofs.Orders.{part_true, part_ends, tableaus_give_up, factors_give_up, formless_ends}
use Rattle.spec_solve.specs.Answers.{enough_pivots, MayAnswer, ColdFits, WarmFits, IsSolved}

-- ---- the cold solve

-- a budget that is spent is below the number that is enough
spent_is_below : (m : Model) (budget : ℕ) → cold (Some number_limit) budget m ≡ Spent → budget < enough_pivots m
spent_is_below m budget e = by (leb (enough_pivots m) budget) refl
  where
    by : (t : Bool) → leb (enough_pivots m) budget ≡ t → budget < enough_pivots m
    by true is = absurd (enough (Some number_limit) budget m (leb-true (enough_pivots m) budget is) e)
    by false is = leb-false (enough_pivots m) budget is

-- the certificate with which a cold solve ends fits the model
cold_fits : (limit : Option ℕ) (budget : ℕ) (m : Model) (known : Known ℚ) (c : Certificate (List ℚ))
    (basis : Option (List Status)) (pivots : ℕ) →
    cold limit budget m ≡ Ended known c basis pivots → IsFor m c
cold_fits limit budget m known c basis pivots =
    by_end limit budget m (λ e. e ≡ Ended known c basis pivots → IsFor m c)
    (λ a d basis' pivots' t e. let same : d ≡ c = cc in subst (IsFor m) same t.accepted.fits)
    (λ p e. let z : ◌≡◌ {A = ExactSolveEnd} (Past p) (Ended known c basis pivots) = e in cc)
    (λ f p q e. let z : ◌≡◌ {A = ExactSolveEnd} Spent (Ended known c basis pivots) = e in cc)

-- where the end has an answer, its certificate is for the model, with numbers of at most 127 bits
abbrev pub HasFitEnd : Model → ExactSolveEnd → Type 0
HasFitEnd m end = (known : Known ℚ) (c : Certificate (List ℚ)) (basis : Option (List Status)) (pivots : ℕ) →
    end ≡ Ended known c basis pivots → IsFor m c × IsNarrowCertificate c

module _ (m : Model) (budget : ℕ) where
  -- the cold part of a solve of the model at the limit of the program, within the budget, may end so
  abbrev pub MayEndSo : ExactSolveEnd → Type 0
  MayEndSo end = MayEndCold (Some number_limit) budget m end

  -- a solve over whole tableaus gives up as the cold part does
  given_up : (end : ExactSolveEnd) → MayEndSo end → GivesUp end → cold (Some number_limit) budget m ≡ end
  given_up end may h = sym (tableaus_give_up (Some number_limit) budget m end may h)

  -- an end that the cold part may have, with a certificate that fits, may be answered
  cold_may : (end : ExactSolveEnd) → MayEndSo end → HasFitEnd m end → MayAnswer m budget end
  cold_may (Ended known c basis pivots) may fit =
      let f = fit known c basis pivots refl in
      (f.0, f.1, (part_true (Some number_limit) budget m known c basis pivots may).2)
  cold_may (Past p) may fit = given_up (Past p) may tt
  cold_may Spent may fit = let tableaus = given_up Spent may tt in (tableaus, spent_is_below m budget tableaus)

  -- an end that the cold part may have fits the cold solve
  cold_how : (end : ExactSolveEnd) → MayEndSo end → ColdFits m budget end
  cold_how (Ended known c basis pivots) may = part_ends (Some number_limit) budget m known c basis pivots may
  cold_how (Past p) may = tt
  cold_how Spent may = tt

  -- ---- a model without a form

  -- the certificate of a clash has no number past 127 bits
  clash_narrow : (j : ℕ) (r : Run (Known ℚ)) (known : Known ℚ) (c : Certificate (List ℚ)) (basis : Option (List Status))
      (pivots : ℕ) →
      checked (certificate.Clash j) None 0 r ≡ Ended known c basis pivots → IsNarrowCertificate c
  clash_narrow j (Ok other) known c basis pivots e =
      let same : certificate.Clash j ≡ c = cc in subst IsNarrowCertificate same tt
  clash_narrow j (Err (check.Past p)) known c basis pivots e = cc
  clash_narrow j (Err (check.No n)) known c basis pivots e = cc

  -- the certificate of an end that a fault of the form makes has numbers of at most 127 bits
  fault_narrow : (why : FormFault ℚ) (known : Known ℚ) (c : Certificate (List ℚ)) (basis : Option (List Status))
      (pivots : ℕ) →
      after_form (Some number_limit) budget m (Err why) ≡ Ended known c basis pivots → IsNarrowCertificate c
  fault_narrow (fault.Clash j) known c basis pivots e =
      clash_narrow j (check_run (Some number_limit) m (certificate.Clash j)) known c basis pivots e
  fault_narrow (fault.Past p) known c basis pivots e = cc

  -- the certificate with which the cold solve of a model without a form ends has numbers of at most 127 bits
  formless_narrow : (why : FormFault ℚ) → form_of (Some number_limit) m ≡ Err why →
      (known : Known ℚ) (c : Certificate (List ℚ)) (basis : Option (List Status)) (pivots : ℕ) →
      cold (Some number_limit) budget m ≡ Ended known c basis pivots → IsNarrowCertificate c
  unfolding cold
  formless_narrow why no_form known c basis pivots e =
      fault_narrow why known c basis pivots
      (subst (λ r. after_form (Some number_limit) budget m r ≡ Ended known c basis pivots) no_form e)

  -- ---- with nothing handed

  -- an end that the cold part may have, with a certificate that fits the model, is a solve of it from no basis
  pub cold_solved : (end : ExactSolveEnd) → MayEndSo end → HasFitEnd m end →
      IsSolved m budget None (record { end = end; route = route.Cold })
  cold_solved end may fit = record {
    may_answer = cold_may end may fit;
    how_fits = (refl, cold_how end may);
    without_form = λ why no_form. formless_ends (Some number_limit) budget m end why no_form may;
    by_factors = λ f formed h. factors_give_up (Some number_limit) budget m end f formed may h;
  }

  -- for a model without a form, the cold solve at the limit is a solve of the model from no basis
  pub formless_solved : (why : FormFault ℚ) → form_of (Some number_limit) m ≡ Err why →
      IsSolved m budget None (record { end = cold (Some number_limit) budget m; route = route.Cold })
  formless_solved why no_form =
      cold_solved (cold (Some number_limit) budget m) (orders.formless_may (Some number_limit) budget m why no_form)
      (λ known c basis pivots e. (
        cold_fits (Some number_limit) budget m known c basis pivots e,
        formless_narrow why no_form known c basis pivots e,
      ))

  -- ---- the solve from a basis of the form

  module _ (basis : List Status) (has : HasBasis (Some number_limit) m basis) where
    -- a basis that a model has is one of the model's form
    form_is_based : (f : Form) → form_of (Some number_limit) m ≡ Ok f → IsBasisOf f basis
    form_is_based f e =
        let same : has.0 ≡ f = let both = sym has.1 ∙ e in cc in
        subst (λ f. IsBasisOf f basis) same has.2

    -- a model that has a basis has a form
    formed : (why : FormFault ℚ) → form_of (Some number_limit) m ≡ Err why → ⊥
    formed why e = let both = sym has.1 ∙ e in cc

    -- a solve of the model at the limit of the program may end so after this end of a warm start
    abbrev MayEndSoBy : WarmResult → SolveEnd → Type 0
    MayEndSoBy result s = MayEndBy (Some number_limit) budget m result s

    -- an end that a warm start may have, with a certificate that fits, may be answered
    warm_may : (result : WarmResult) (s : SolveEnd) → warm_start (Some number_limit) budget m basis ≡ result →
        MayEndSoBy result s → HasFitEnd m s.end → MayAnswer m budget s.end
    warm_may (warm.Ended known c left pivots) s e is fit =
        let f = fit known c left pivots (ap (λ (s : SolveEnd). s.end) is) in
        subst (λ (s : SolveEnd). MayAnswer m budget s.end) (sym is)
        (f.0, f.1, (warm_ends.ended_is_true (Some number_limit) budget m basis known c left pivots form_is_based e).1)
    warm_may (warm.Stopped stop) s e may fit = cold_may s.end may.0 fit

    -- an end that a warm start may have fits the warm start
    warm_how : (result : WarmResult) (s : SolveEnd) → MayEndSoBy result s → WarmFits m budget result s
    warm_how (warm.Ended known c left pivots) s is = is
    warm_how (warm.Stopped stop) s may = (may.1, cold_how s.end may.0)

    -- where an end that a warm start may have gives up, the run over factors gives up
    warm_by_factors : (result : WarmResult) (s : SolveEnd) → MayEndSoBy result s →
        (f : Form) → form_of (Some number_limit) m ≡ Ok f → GivesUp s.end →
        GivesUp (over_factors (Some number_limit) budget m f)
    warm_by_factors (warm.Ended known c left pivots) s is f e h =
        absurd (subst (λ (s : SolveEnd). GivesUp s.end) is h)
    warm_by_factors (warm.Stopped stop) s may f e h = factors_give_up (Some number_limit) budget m s.end f e may.0 h

    -- an end that a warm start may have, with a certificate that fits, is a solve from this basis
    warm_solved : (s : SolveEnd) → MayEndSoBy (warm_start (Some number_limit) budget m basis) s → HasFitEnd m s.end →
        IsSolved m budget (Some basis) s
    warm_solved s may fit = record {
      may_answer = warm_may (warm_start (Some number_limit) budget m basis) s refl may fit;
      how_fits = warm_how (warm_start (Some number_limit) budget m basis) s may;
      without_form = λ why no_form. absurd (formed why no_form);
      by_factors = warm_by_factors (warm_start (Some number_limit) budget m basis) s may;
    }

  -- ---- either way

  -- a solve of the model that may end so is one that is allowed
  pub is_solved : (handed : Option (List Status)) (s : SolveEnd) → IfSome handed (HasBasis (Some number_limit) m) →
      MayEnd (Some number_limit) budget m handed s → HasFitEnd m s.end → IsSolved m budget handed s
  unfolding MayEnd
  is_solved None s h may fit =
      subst (λ way. IsSolved m budget None (record { end = s.end; route = way })) (sym may.1)
      (cold_solved s.end may.0 fit)
  is_solved (Some basis) s h may fit = warm_solved basis h s may fit

  -- nothing else is allowed

  -- an end that may be answered, fits the cold solve, is the cold solve's for a model without a form, and gives up only
  -- where the run over factors does, is one with which a solve may end
  cold_ends : (end : ExactSolveEnd) → MayAnswer m budget end → ColdFits m budget end →
      ((why : FormFault ℚ) → form_of (Some number_limit) m ≡ Err why → end ≡ cold (Some number_limit) budget m) →
      ((f : Form) → form_of (Some number_limit) m ≡ Ok f → GivesUp end →
      GivesUp (over_factors (Some number_limit) budget m f)) →
      MayEndSo end
  cold_ends (Ended known c basis pivots) may fits formless factors = Answered (sym fits) may.2 formless
  cold_ends (Past p) may fits formless factors = GaveUp tt (sym may) (λ f h. factors f h tt)
  cold_ends Spent may fits formless factors = GaveUp tt (sym may.0) (λ f h. factors f h tt)

  -- a solve that fits a warm start, may be answered, and gives up only where the run over factors does, may end so
  -- after this start
  warm_ends_by : (result : WarmResult) (s : SolveEnd) → WarmFits m budget result s → MayAnswer m budget s.end →
      ((why : FormFault ℚ) → form_of (Some number_limit) m ≡ Err why → s.end ≡ cold (Some number_limit) budget m) →
      ((f : Form) → form_of (Some number_limit) m ≡ Ok f → GivesUp s.end →
      GivesUp (over_factors (Some number_limit) budget m f)) →
      MayEndBy (Some number_limit) budget m result s
  warm_ends_by (warm.Ended known c left pivots) s fits may formless factors = fits
  warm_ends_by (warm.Stopped stop) s fits may formless factors =
      (cold_ends s.end may fits.1 formless factors, fits.0)

  -- each solve of a model ends as a solve at the program's limit may end
  pub solved_ends : (handed : Option (List Status)) (s : SolveEnd) → IsSolved m budget handed s →
      MayEnd (Some number_limit) budget m handed s
  unfolding MayEnd
  solved_ends None s h = (cold_ends s.end h.may_answer h.how_fits.1 h.without_form h.by_factors, h.how_fits.0)
  solved_ends (Some basis) s h =
      warm_ends_by (warm_start (Some number_limit) budget m basis) s h.how_fits h.may_answer h.without_form
      h.by_factors

  -- the certificate of an end that may be answered is one for the model, of numbers of at most 127 bits
  answer_fits : (end : ExactSolveEnd) → MayAnswer m budget end → HasFitEnd m end
  answer_fits end may = λ known c basis pivots e.
      let h : MayAnswer m budget (Ended known c basis pivots) = subst (MayAnswer m budget) e may in (h.0, h.1)

  -- the certificate of each solve's end is one for the model, of numbers of at most 127 bits
  pub solved_fits : (handed : Option (List Status)) (s : SolveEnd) → IsSolved m budget handed s → HasFitEnd m s.end
  solved_fits handed s h = answer_fits s.end h.may_answer
