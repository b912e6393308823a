-- How the cold part of a solve may end, beside the cold solve without a limit and the two stated runs.
use Rattle.std.proofs.Common.{◌≡◌, ◌⊎◌, inl, inr, ⊎_elim, ℕ, List, Option, Some, None, Result, Ok, Err}
use Rattle.std.proofs.Common.{refl, sym, ap, ◌∙◌, subst}
use Rattle.spec_exact.specs.Fraction.{ℚ}
use Rattle.spec_exact.specs.declared.past.Past.{Past as Refused}
use Rattle.spec_model.specs.Model.{Model}
use Rattle.spec_check.specs.declared.certificate.Certificate.{Certificate}
use Rattle.spec_check.specs.declared.certificate.CheckStop.TheVariants as check
use Rattle.spec_check.specs.declared.certificate.Known.{Known}
use Rattle.spec_check.specs.Certificate.{IsFor, Holds}
use Rattle.spec_check.specs.Run.{Run, Agrees, check_run}
use Rattle.spec_check.proofs.RunAgrees.{run_agrees}
use Rattle.spec_pivot.specs.declared.status.Status.{Status}
use Rattle.spec_simplex.specs.declared.ends.FormFault.{FormFault}
use Rattle.spec_simplex.specs.declared.ends.RunStop.{RunStop}
use Rattle.spec_simplex.specs.declared.ends.RunStop.TheVariants as stop
use Rattle.spec_simplex.specs.Form.{Form, form_of}
use Rattle.spec_simplex.specs.Phases.{PhasesEnd, phases_run}
use Rattle.spec_check.specs.declared.solve_end.SolveEnd.TheVariants.{Ended, Past, Spent}
use Rattle.spec_simplex.proofs.LimitStart.{form_without}
use Rattle.spec_runs.specs.Cold.{ExactSolveEnd, certificate_of, basis_of, pivots_of}
use Rattle.spec_runs.specs.Cold.{checked, answered, after_phases, after_form, cold}
use Rattle.spec_runs.proofs.ColdSolves as colds
use Rattle.spec_runs.proofs.LimitCold.{cold_same}
use Rattle.spec_runs.specs.declared.ends.Route.{Route}
use Rattle.spec_runs.specs.declared.ends.Route.TheVariants as route
use Rattle.spec_runs.specs.declared.ends.Warm.TheVariants as warms
use Rattle.spec_runs.specs.Warm.{WarmResult, warm}
use Rattle.spec_runs.specs.Solve.{SolveEnd, fall_of, solved_by, solve}
use Rattle.spec_factor.specs.Over.{OverEnd, over_run, after_over, over_factors}
use Rattle.spec_factor.proofs.OverCold.{over_same}
use Rattle.spec_solve.specs.Order.{GivesUp, IsChecked, MayEndCold, Answered, GaveUp, MayEndBy, MayEnd}
use Rattle.spec_solve.specs.Order.{or_tableaus, cold_by, cold_over}

-- the first end is the second, or says that an operation was refused
abbrev Same : ExactSolveEnd → ExactSolveEnd → Type 0
Same o u = (o ≡ u) ⊎ ((p : Refused ℚ) × (o ≡ Past p))

-- ---- an end with an answer was checked

-- the end gives up, or has a certificate that the checker at the limit accepts
abbrev ChecksOut : Option ℕ → Model → ExactSolveEnd → Type 0
ChecksOut limit m end = GivesUp end ⊎ IsChecked limit m end

-- an end that is answered with a certificate gives up, or the checker says yes to the certificate
checks_out : (limit : Option ℕ) (m : Model) (c : Certificate (List ℚ)) (basis : Option (List Status)) (pivots : ℕ) →
    ChecksOut limit m (answered limit m c basis pivots)
checks_out limit m c basis pivots = by (check_run limit m c) refl
  where
    by : (r : Run (Known ℚ)) → check_run limit m c ≡ r → ChecksOut limit m (checked c basis pivots r)
    by (Ok known) e = inr e
    by (Err (check.Past p)) e = inl tt
    by (Err (check.No n)) e = inl tt

-- a run over factors gives up, or ends with a certificate to which the checker says yes
over_checks_out : (limit : Option ℕ) (budget : ℕ) (m : Model) (f : Form) →
    ChecksOut limit m (over_factors limit budget m f)
unfolding over_factors
over_checks_out limit budget m f = by (over_run limit budget f)
  where
    by : (r : Result OverEnd (RunStop ℚ)) → ChecksOut limit m (after_over limit m r)
    by (Ok a) = checks_out limit m a.certificate a.basis a.pivots
    by (Err (stop.Past p)) = inl tt
    by (Err stop.Spent) = inl tt

-- a cold solve gives up, or ends with a certificate to which the checker says yes
cold_checks_out : (limit : Option ℕ) (budget : ℕ) (m : Model) → ChecksOut limit m (cold limit budget m)
cold_checks_out limit budget m =
    colds.by_end limit budget m (ChecksOut limit m) (λ answer c basis pivots t. inr t.checks) (λ p. inl tt)
    (λ f formed spent. inl tt)

-- an end that gives up has no certificate to which the checker says yes
not_both : (limit : Option ℕ) (m : Model) (end : ExactSolveEnd) → GivesUp end → ¬ (IsChecked limit m end)
not_both limit m (Ended known c basis pivots) up checks = absurd up
not_both limit m (Past p) up checks = checks
not_both limit m Spent up checks = checks

-- an end with a refused operation gives up
refused_gives_up : (end : ExactSolveEnd) (p : Refused ℚ) → end ≡ Past p → GivesUp end
refused_gives_up end p e = subst GivesUp (sym e) tt

-- two forms of one model at one limit are the same
same_form : (limit : Option ℕ) (m : Model) (f g : Form) → form_of limit m ≡ Ok f → form_of limit m ≡ Ok g → f ≡ g
same_form limit m f g h k = let z : ◌≡◌ {A = Result Form (FormFault ℚ)} (Ok f) (Ok g) = sym h ∙ k in cc

-- a model with a form at a limit has no fault of its form at that limit
not_formless : (limit : Option ℕ) (m : Model) (f : Form) (why : FormFault ℚ) → form_of limit m ≡ Ok f →
    ¬ (form_of limit m ≡ Err why)
not_formless limit m f why h k = let z : ◌≡◌ {A = Result Form (FormFault ℚ)} (Ok f) (Err why) = sym h ∙ k in cc

-- what the checker says at a limit it says without one
pub check_without : (limit : Option ℕ) (m : Model) (c : Certificate (List ℚ)) (known : Known ℚ) →
    check_run limit m c ≡ Ok known → check_run None m c ≡ Ok known
unfolding Agrees
check_without limit m c known h =
    ⊎_elim (λ e. sym e ∙ h)
    (λ p. let z : ◌≡◌ {A = Run (Known ℚ)} (Err (check.Past p.0)) (Ok known) = sym p.1 ∙ h in cc)
    (run_agrees limit m c)

-- ---- which ends may be

module _ (limit : Option ℕ) (budget : ℕ) (m : Model) where
  -- where the model has a form at the limit, the run over factors of it gives up
  abbrev FactorsGiveUp : Type 0
  FactorsGiveUp = (f : Form) → form_of limit m ≡ Ok f → GivesUp (over_factors limit budget m f)

  -- an end that is checked, and the same as that of the cold solve without a limit, is one with which the cold part may
  -- end
  answered_may : (end : ExactSolveEnd) → Same end (cold None budget m) → IsChecked limit m end →
      ((why : FormFault ℚ) → form_of limit m ≡ Err why → end ≡ cold limit budget m) → MayEndCold limit budget m end
  answered_may end (inl e) checks formless = Answered e checks formless
  answered_may end (inr p) checks formless =
      absurd (not_both limit m end (refused_gives_up end p.0 p.1) checks)

  -- where the run over factors gives up, the cold part may end as the solve over whole tableaus at the limit
  tableaus_may : FactorsGiveUp → MayEndCold limit budget m (cold limit budget m)
  tableaus_may factors =
      ⊎_elim (λ up. GaveUp up refl factors)
      (λ checks. answered_may (cold limit budget m) (cold_same limit budget m) checks (λ why e. refl))
      (cold_checks_out limit budget m)

  -- for a model with a form, the cold part may end as the run over factors, or where that gives up as the solve over
  -- whole tableaus
  or_may : (f : Form) → form_of limit m ≡ Ok f → (o : ExactSolveEnd) → over_factors limit budget m f ≡ o →
      MayEndCold limit budget m (or_tableaus o (cold limit budget m))
  or_may f formed (Ended known c basis pivots) q =
      answered_may (Ended known c basis pivots)
      (subst (λ o. Same o (cold None budget m)) q (over_same limit budget m f formed))
      (⊎_elim (λ up. absurd up) (λ checks. checks) (subst (ChecksOut limit m) q (over_checks_out limit budget m f)))
      (λ why e. absurd (not_formless limit m f why formed e))
  or_may f formed (Past p) q =
      tableaus_may
      (λ g h. subst (λ g. GivesUp (over_factors limit budget m g)) (same_form limit m f g formed h)
      (subst GivesUp (sym q) tt))
  or_may f formed Spent q =
      tableaus_may
      (λ g h. subst (λ g. GivesUp (over_factors limit budget m g)) (same_form limit m f g formed h)
      (subst GivesUp (sym q) tt))

  -- the cold part by a model's form, or by its fault, ends as the cold part may end
  pub by_may : (o : Result Form (FormFault ℚ)) → form_of limit m ≡ o →
      MayEndCold limit budget m (cold_by limit budget m o)
  by_may (Ok f) e = or_may f e (over_factors limit budget m f) refl
  by_may (Err why) e = tableaus_may (λ f h. absurd (not_formless limit m f why h e))

  -- the cold part over factors at the limit ends as the cold part may end
  pub part_may : MayEndCold limit budget m (cold_over limit budget m)
  unfolding cold_over
  part_may = by_may (form_of limit m) refl

  -- for a model without a form, the cold part may end as the cold solve at the limit
  pub formless_may : (why : FormFault ℚ) → form_of limit m ≡ Err why → MayEndCold limit budget m (cold limit budget m)
  formless_may why e = tableaus_may (λ f h. absurd (not_formless limit m f why h e))

  -- what the check makes of the end of both phases without a limit
  module _ (f : Form) (formed : form_of limit m ≡ Ok f) (e : PhasesEnd) (ended : phases_run None budget f ≡ Ok e) where
    -- where both phases without a limit end, the cold solve without a limit is that end with its certificate checked
    exact_is : cold None budget m ≡ answered None m (certificate_of e) (basis_of e) (pivots_of e)
    unfolding cold
    exact_is =
        ap (after_form None budget m) (form_without limit m f formed) ∙ ap (after_phases None m) ended

    -- where both phases without a limit end, and the check at the limit accepts that end's certificate, the cold part
    -- may end with it
    pub checked_ends_may : (known : Known ℚ) → check_run limit m (certificate_of e) ≡ Ok known →
        MayEndCold limit budget m (Ended known (certificate_of e) (basis_of e) (pivots_of e))
    checked_ends_may known accepted =
        Answered
        (sym (exact_is ∙ ap (checked (certificate_of e) (basis_of e) (pivots_of e))
        (check_without limit m (certificate_of e) known accepted)))
        accepted (λ why h. absurd (not_formless limit m f why formed h))

    -- where both phases without a limit end, the cold part may end so once the checker at the limit accepts the
    -- certificate; else the check gives up
    pub checked_may : MayEndCold limit budget m (answered limit m (certificate_of e) (basis_of e) (pivots_of e))
        ⊎ GivesUp (answered limit m (certificate_of e) (basis_of e) (pivots_of e))
    checked_may = by (check_run limit m (certificate_of e)) refl
      where
        by : (r : Run (Known ℚ)) → check_run limit m (certificate_of e) ≡ r →
            MayEndCold limit budget m (checked (certificate_of e) (basis_of e) (pivots_of e) r)
            ⊎ GivesUp (checked (certificate_of e) (basis_of e) (pivots_of e) r)
        by (Ok known) h = inl (checked_ends_may known h)
        by (Err (check.Past p)) h = inr tt
        by (Err (check.No n)) h = inr tt

-- ---- what holds of each end that may be

module _ (limit : Option ℕ) (budget : ℕ) (m : Model) where
  -- each end with which the cold part may end agrees with that of the cold solve without a limit, by `Same`
  pub part_same : (end : ExactSolveEnd) → MayEndCold limit budget m end → Same end (cold None budget m)
  part_same end (Answered e checks formless) = inl e
  part_same end (GaveUp up e factors) = subst (λ o. Same o (cold None budget m)) (sym e) (cold_same limit budget m)

  -- an answer with which the cold part may end is the one with which the cold solve without a limit ends
  pub part_ends : (known : Known ℚ) (cert : Certificate (List ℚ)) (left : Option (List Status)) (pivots : ℕ) →
      MayEndCold limit budget m (Ended known cert left pivots) → cold None budget m ≡ Ended known cert left pivots
  part_ends known cert left pivots (Answered e checks formless) = sym e
  part_ends known cert left pivots (GaveUp up e factors) = absurd up

  -- the certificate of an answer with which the cold part may end is accepted at the limit
  part_checked : (known : Known ℚ) (cert : Certificate (List ℚ)) (left : Option (List Status)) (pivots : ℕ) →
      MayEndCold limit budget m (Ended known cert left pivots) → check_run limit m cert ≡ Ok known
  part_checked known cert left pivots (Answered e checks formless) = checks
  part_checked known cert left pivots (GaveUp up e factors) = absurd up

  -- the certificate with which the cold solve without a limit ends fits the model
  part_fits : (known : Known ℚ) (cert : Certificate (List ℚ)) (left : Option (List Status)) (pivots : ℕ) →
      cold None budget m ≡ Ended known cert left pivots → IsFor m cert
  part_fits known cert left pivots =
      colds.by_end None budget m (λ e. e ≡ Ended known cert left pivots → IsFor m cert)
      (λ a d basis' pivots' t e. let same : d ≡ cert = cc in subst (IsFor m) same t.accepted.fits)
      (λ p e. let z : ◌≡◌ {A = ExactSolveEnd} (Past p) (Ended known cert left pivots) = e in cc)
      (λ f p q e. let z : ◌≡◌ {A = ExactSolveEnd} Spent (Ended known cert left pivots) = e in cc)

  -- an answer with which the cold part may end holds of the model, and its certificate fits the model and is accepted
  -- at the limit
  pub part_true : (known : Known ℚ) (cert : Certificate (List ℚ)) (left : Option (List Status)) (pivots : ℕ) →
      MayEndCold limit budget m (Ended known cert left pivots) →
      Holds m known × IsFor m cert × (check_run limit m cert ≡ Ok known)
  part_true known cert left pivots may =
      let exact = part_ends known cert left pivots may in (
        (colds.ended_is_true None budget m known cert left pivots exact).0,
        part_fits known cert left pivots exact,
        part_checked known cert left pivots may,
      )

  -- where the cold part may end by giving up, it gives up as the cold solve over whole tableaus at the limit does
  pub tableaus_give_up : (end : ExactSolveEnd) → MayEndCold limit budget m end → GivesUp end →
      end ≡ cold limit budget m
  tableaus_give_up end (Answered e checks formless) up = absurd (not_both limit m end up checks)
  tableaus_give_up end (GaveUp up e factors) up' = e

  -- where the cold part may end by giving up, the run over factors at the limit gives up
  pub factors_give_up : (end : ExactSolveEnd) (f : Form) → form_of limit m ≡ Ok f → MayEndCold limit budget m end →
      GivesUp end → GivesUp (over_factors limit budget m f)
  factors_give_up end f formed (Answered e checks formless) up = absurd (not_both limit m end up checks)
  factors_give_up end f formed (GaveUp up e factors) up' = factors f formed

  -- for a model without a form, the cold part may end only as the cold solve at the limit
  pub formless_ends : (end : ExactSolveEnd) (why : FormFault ℚ) → form_of limit m ≡ Err why →
      MayEndCold limit budget m end → end ≡ cold limit budget m
  formless_ends end why no_form (Answered e checks formless) = formless why no_form
  formless_ends end why no_form (GaveUp up e factors) = e

  -- ---- answers are only added

  -- the first end is the second, unless the second gives up
  abbrev Kept : ExactSolveEnd → ExactSolveEnd → Type 0
  Kept end other = (end ≡ other) ⊎ GivesUp other

  -- an end that is that of the cold solve without a limit is each other end that agrees with it by `Same`, unless that
  -- one gives up
  kept_by : (end other : ExactSolveEnd) → end ≡ cold None budget m → Same other (cold None budget m) → Kept end other
  kept_by end other e (inl is) = inl (e ∙ sym is)
  kept_by end other e (inr p) = inr (refused_gives_up other p.0 p.1)

  -- where the run over factors gives up, the cold part over factors is the solve over whole tableaus
  given_up : FactorsGiveUp limit budget m → cold limit budget m ≡ cold_over limit budget m
  unfolding cold_over
  given_up factors = by (form_of limit m) refl
    where
      or_given : (o : ExactSolveEnd) → GivesUp o → cold limit budget m ≡ or_tableaus o (cold limit budget m)
      or_given (Ended known c basis pivots) up = absurd up
      or_given (Past p) up = refl
      or_given Spent up = refl

      by : (o : Result Form (FormFault ℚ)) → form_of limit m ≡ o → cold limit budget m ≡ cold_by limit budget m o
      by (Ok f) e = or_given (over_factors limit budget m f) (factors f e)
      by (Err why) e = refl

  -- each end with which the cold part may end is that of the stated cold part over factors, unless that one gives up
  pub stated_kept : (end : ExactSolveEnd) → MayEndCold limit budget m end → Kept end (cold_over limit budget m)
  stated_kept end (Answered e checks formless) =
      kept_by end (cold_over limit budget m) e
      (part_same (cold_over limit budget m) (part_may limit budget m))
  stated_kept end (GaveUp up e factors) = inl (e ∙ given_up factors)

  -- each end with which the cold part may end is that of the cold solve at the limit, unless that one gives up
  pub part_kept : (end : ExactSolveEnd) → MayEndCold limit budget m end → Kept end (cold limit budget m)
  part_kept end (Answered e checks formless) = kept_by end (cold limit budget m) e (cold_same limit budget m)
  part_kept end (GaveUp up e factors) = inl e

  -- the first solve is the second, with its route, unless the second gives up
  abbrev KeptSolve : SolveEnd → SolveEnd → Type 0
  KeptSolve s t = (s ≡ t) ⊎ GivesUp t.end

  -- where an end is that of the cold solve at the limit, unless this gives up, so is a solve with it and a route
  solved_kept : (s : SolveEnd) (way : Route) → s.route ≡ way → Kept s.end (cold limit budget m) →
      KeptSolve s (record { end = cold limit budget m; route = way })
  solved_kept s way h (inl e) =
      inl (ap (λ end. record { end = end; route = s.route }) e
      ∙ ap (λ way. record { end = cold limit budget m; route = way }) h)
  solved_kept s way h (inr up) = inr up

  -- a solve that may end so after a warm start is the stated solve after this start, unless that one gives up
  warm_kept : (w : WarmResult) (s : SolveEnd) → MayEndBy limit budget m w s →
      KeptSolve s (solved_by (cold limit budget m) w)
  warm_kept (warms.Ended known c left pivots) s h = inl h
  warm_kept (warms.Stopped why) s h = solved_kept s (route.Fell (fall_of why)) h.1 (part_kept s.end h.0)

  -- each end with which a solve may end is kept by the stated solve: the same, unless that one gives up
  pub solve_kept : (handed : Option (List Status)) (s : SolveEnd) → MayEnd limit budget m handed s →
      KeptSolve s (solve limit budget m handed)
  unfolding solve MayEnd
  solve_kept None s h = solved_kept s route.Cold h.1 (part_kept s.end h.0)
  solve_kept (Some basis) s h = warm_kept (warm limit budget m basis) s h
