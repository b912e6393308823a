-- The whole solve at a limit beside the one without a limit; and each model has an answer.
--
-- `never_past`: a cold solve without a limit never ends with a refused operation.
-- `answers`: with a budget of 2 * 3 ^ (width + 2 * height) or more, the solve without a limit ends with a true answer.
use Rattle.std.proofs.Common.{◌≡◌, ◌≢◌, ◌⊎◌, inl, inr, ℕ, ◌+◌, ◌*◌, ◌^◌}
use Rattle.std.proofs.Common.{◌≤◌, List, Option, None, Result, Ok, Err, refl, sym, ap, ◌∙◌, subst}
use Rattle.spec_exact.specs.Fraction.{ℚ}
use Rattle.spec_exact.specs.declared.past.Past.{Past}
use Rattle.spec_model.specs.Model.{Model, width, height}
use Rattle.spec_check.specs.declared.certificate.Certificate.{Certificate}
use Rattle.spec_check.specs.Certificate.{shown}
use Rattle.spec_pivot.specs.declared.status.Status.{Status}
use Rattle.spec_simplex.specs.declared.ends.FormFault.{FormFault}
use Rattle.spec_simplex.specs.declared.ends.FormFault.TheVariants as fault
use Rattle.spec_simplex.specs.declared.ends.RunStop.{RunStop}
use Rattle.spec_simplex.specs.declared.ends.RunStop.TheVariants as stop
use Rattle.spec_simplex.specs.Form.{Form, form_of}
use Rattle.spec_simplex.specs.Phases.{PhasesEnd, phases_run}
use Rattle.spec_check.specs.declared.solve_end.SolveEnd.TheVariants as outcome
use Rattle.spec_runs.specs.Cold.{ExactSolveEnd, certificate_of, basis_of, pivots_of}
use Rattle.spec_runs.specs.Cold.{checked, answered, after_phases, after_form, cold}
use Rattle.spec_runs.specs.Accepted.{IsAccepted, IsAnswered}
use Rattle.spec_simplex.proofs.LimitStart.{form_agrees}
use Rattle.spec_runs.proofs.ColdSolves.{same_or_refused, end_accepted, clash_accepted, enough, ended_is_true}
use Rattle.spec_simplex.proofs.LimitPhases.{phases_agree}

module _ (limit : Option ℕ) (budget : ℕ) (m : Model) where
  abbrev Same : ExactSolveEnd → ExactSolveEnd → Type 0
  Same o u = (o ≡ u) ⊎ ((p : Past ℚ) × (o ≡ outcome.Past p))

  answers_agree : (c : Certificate (List ℚ)) (basis : Option (List Status)) (pivots : ℕ) → IsAccepted limit m c →
      Same (answered limit m c basis pivots) (answered None m c basis pivots)
  answers_agree c basis pivots a = same_or_refused limit m c a (checked c basis pivots)

  phases_same : (f : Form) → form_of limit m ≡ Ok f →
      Same (after_phases limit m (phases_run limit budget f)) (after_phases None m (phases_run None budget f))
  phases_same f e = by (phases_run limit budget f) (phases_run None budget f) refl (phases_agree limit budget f).same
    where
      by : (o u : Result PhasesEnd (RunStop ℚ)) → phases_run limit budget f ≡ o →
          (o ≡ u) ⊎ ((p : Past ℚ) × (o ≡ Err (stop.Past p))) → Same (after_phases limit m o) (after_phases None m u)
      by o u q (inr p) = inr (p.0, ap (after_phases limit m) p.1)
      by (Ok end) u q (inl z) =
          subst (λ u. Same (after_phases limit m (Ok end)) (after_phases None m u)) z
          (answers_agree (certificate_of end) (basis_of end) (pivots_of end) (end_accepted limit budget m f end e q))
      by (Err (stop.Past p)) u q (inl z) = inr (p, refl)
      by (Err stop.Spent) u q (inl z) = inl (ap (after_phases None m) z)

  pub cold_same : Same (cold limit budget m) (cold None budget m)
  unfolding cold
  cold_same = by (form_of limit m) (form_of None m) refl (form_agrees limit m).same
    where
      by : (o u : Result Form (FormFault ℚ)) → form_of limit m ≡ o →
          (o ≡ u) ⊎ ((p : Past ℚ) × (o ≡ Err (fault.Past p))) →
          Same (after_form limit budget m o) (after_form None budget m u)
      by o u q (inr p) = inr (p.0, ap (after_form limit budget m) p.1)
      by (Ok f) u q (inl z) =
          subst (λ u. Same (after_form limit budget m (Ok f)) (after_form None budget m u)) z (phases_same f q)
      by (Err (fault.Clash j)) u q (inl z) =
          subst (λ u. Same (after_form limit budget m (Err (fault.Clash j))) (after_form None budget m u)) z
          (answers_agree _ None 0 (clash_accepted limit m j q))
      by (Err (fault.Past p)) u q (inl z) = inr (p, refl)

-- ---- without a limit

-- without a limit, a solve whose certificate is accepted does not end with a refused operation
checked_never_past : (m : Model) (c : Certificate (List ℚ)) (basis : Option (List Status)) (pivots : ℕ) →
    IsAccepted None m c → (p : Past ℚ) → ¬ (answered None m c basis pivots ≡ outcome.Past p)
checked_never_past m c basis pivots a p e =
    let z : ◌≡◌ {A = ExactSolveEnd} (outcome.Ended (shown m c) c basis pivots) (outcome.Past p) =
    sym (ap (checked c basis pivots) a.accepted) ∙ e in
    cc

pub never_past : (budget : ℕ) (m : Model) (p : Past ℚ) → ¬ (cold None budget m ≡ outcome.Past p)
unfolding cold
never_past budget m p = by (form_of None m) refl (form_agrees None m).exact
  where
    with_phases : (f : Form) → form_of None m ≡ Ok f → (o : Result PhasesEnd (RunStop ℚ)) →
        phases_run None budget f ≡ o → ((p : Past ℚ) → o ≢ Err (stop.Past p)) →
        ¬ (after_phases None m o ≡ outcome.Past p)
    with_phases f e (Ok end) q n =
        checked_never_past m (certificate_of end) (basis_of end)
        (pivots_of end) (end_accepted None budget m f end e q) p
    with_phases f e (Err (stop.Past v)) q n = absurd (n v refl)
    with_phases f e (Err stop.Spent) q n = λ z. let y : ◌≡◌ {A = ExactSolveEnd} outcome.Spent (outcome.Past p) = z in cc

    by : (o : Result Form (FormFault ℚ)) → form_of None m ≡ o → ((p : Past ℚ) → o ≢ Err (fault.Past p)) →
        ¬ (after_form None budget m o ≡ outcome.Past p)
    by (Ok f) e n = with_phases f e (phases_run None budget f) refl (phases_agree None budget f).exact
    by (Err (fault.Clash j)) e n = checked_never_past m _ None 0 (clash_accepted None m j e) p
    by (Err (fault.Past v)) e n = absurd (n v refl)

pub answers : (budget : ℕ) (m : Model) → 2 * 3 ^ (width m + 2 * height m) ≤ budget → IsAnswered budget m
answers budget m enough_ = by (cold None budget m) refl
  where
    by : (e : ExactSolveEnd) → cold None budget m ≡ e → IsAnswered budget m
    by (outcome.Ended answer c basis pivots) e =
        record {
          answer = answer;
          certificate = c;
          basis = basis;
          pivots = pivots;
          ended = e;
          holds = (ended_is_true None budget m answer c basis pivots e).0;
        }
    by (outcome.Past p) e = absurd (never_past budget m p e)
    by outcome.Spent e = absurd (enough None budget m enough_ e)
