-- What a cold solve ends with is true.
--
-- `accepted`: a certificate that has the model's sizes and fulfils its conditions is accepted at each limit, unless an
--   operation is refused there.
-- `end_accepted`: the certificate of what both phases of a model's form end with is accepted, unless an operation is
--   refused.
-- `clash_accepted`: a clash that the form of a model has is accepted as a certificate, unless an operation is refused.
-- `by_accepted`: the check of an accepted certificate gives what it shows, or says that an operation is refused.
-- `same_or_refused`: what is made of a check at a limit is made of the one without a limit, or of a refused operation.
-- `end_is_true`: an answer and a certificate equal to those of a true end hold of the model and pass the check.
-- `ended_is_true`: the answer of a cold solve holds of the model, and the check of its certificate gives that answer.
-- `spent_is_spent`: a cold solve is spent only where the phases of the model's form are spent.
-- `enough`: with a budget of 2 * 3 ^ (width + 2 * height) or more a cold solve is never spent.
use Rattle.std.proofs.Common.{◌≡◌, ◌⊎◌, inl, inr, ⊎_elim, ℕ, ◌+◌, ◌*◌, ◌^◌, ◌≤◌, List, Option, None}
use Rattle.std.proofs.Common.{Result, Ok, Err, refl, sym, ap, ◌∙◌, subst, arith}
use Rattle.spec_exact.specs.Fraction.{ℚ}
use Rattle.spec_exact.specs.declared.past.Past.{Past}
use Rattle.spec_model.specs.Model.{Model, width, height}
use Rattle.spec_check.specs.declared.certificate.Certificate.{Certificate}
use Rattle.spec_check.specs.declared.certificate.Certificate.TheVariants as certificate
use Rattle.spec_check.specs.declared.certificate.Known.{Known}
use Rattle.spec_check.specs.declared.certificate.CheckStop.{CheckStop}
use Rattle.spec_check.specs.declared.certificate.CheckStop.TheVariants as check
use Rattle.spec_check.specs.Certificate.{IsFor, shown, Holds}
use Rattle.spec_check.specs.Run.{Agrees, check_run}
use Rattle.spec_check.proofs.RunAgrees.{run_agrees}
use Rattle.spec_check.proofs.RunComplete.{run_complete}
use Rattle.spec_check.proofs.RunSound.{run_sound}
use Rattle.spec_check.proofs.Sound.{checks_hold}
use Rattle.spec_pivot.specs.declared.status.Status.{Status}
use Rattle.spec_simplex.specs.declared.ends.FormFault.{FormFault}
use Rattle.spec_simplex.specs.declared.ends.FormFault.TheVariants as fault
use Rattle.spec_simplex.specs.declared.ends.RunStop.{RunStop as Spending}
use Rattle.spec_simplex.specs.declared.ends.RunStop.TheVariants as stop
use Rattle.spec_simplex.specs.Form.{Form, form_of}
use Rattle.spec_simplex.specs.Phases.{PhasesEnd, phases_run}
use Rattle.spec_check.specs.declared.solve_end.SolveEnd.TheVariants as outcome
use Rattle.spec_runs.specs.Cold.{ExactSolveEnd, certificate_of, basis_of, pivots_of}
use Rattle.spec_runs.specs.Cold.{checked, answered, after_phases, after_form, cold}
use Rattle.spec_runs.specs.Accepted.{IsAccepted}
use Rattle.spec_simplex.proofs.FormOfModel.{form_is}
use Rattle.spec_runs.proofs.FormCosts.{clash_is}
use Rattle.spec_simplex.proofs.Phases.{phases_enough}
use Rattle.spec_runs.proofs.Phases.{phases_show}
use Rattle.spec_runs.proofs.Shown.{Shows}

pub accepted : (limit : Option ℕ) (m : Model) (c : Certificate (List ℚ)) → Shows m c → IsAccepted limit m c
accepted limit m c s = record {
  fits = s.for;
  holds = s.checks;
  accepted = run_complete m c s.checks;
  limited = subst (λ o. Agrees (check_run limit m c) o) (run_complete m c s.checks) (run_agrees limit m c);
}

pub end_accepted : (limit : Option ℕ) (budget : ℕ) (m : Model) (f : Form) (e : PhasesEnd) → form_of limit m ≡ Ok f →
    phases_run limit budget f ≡ Ok e → IsAccepted limit m (certificate_of e)
end_accepted limit budget m f e p q =
    let o = form_is limit m f p in
    accepted limit m (certificate_of e) (phases_show limit m o.0 o.1 budget e (ap (phases_run limit budget) o.2 ∙ q))

pub clash_accepted : (limit : Option ℕ) (m : Model) (j : ℕ) → form_of limit m ≡ Err (fault.Clash j) →
    IsAccepted limit m (certificate.Clash j)
clash_accepted limit m j e =
    let c = clash_is limit m j e in accepted limit m (certificate.Clash j) (record { for = c.inside; checks = c })

-- ---- by what the checker says

-- the check of an accepted certificate says what it shows, or that an operation is refused
pub by_accepted : (limit : Option ℕ) (m : Model) (c : Certificate (List ℚ)) → IsAccepted limit m c →
    (P : Result (Known ℚ) (CheckStop ℚ) → Type 0) → (check_run limit m c ≡ Ok (shown m c) → P (Ok (shown m c))) →
    ((p : Past ℚ) → P (Err (check.Past p))) → P (check_run limit m c)
unfolding Agrees
by_accepted limit m c a P says past =
    ⊎_elim (λ e. subst P (sym e) (says e)) (λ p. subst P (sym p.1) (past p.0)) a.limited

-- what is made of the check at a limit is made of the check without one, or of a refused operation
pub same_or_refused : {E : Type 0} (limit : Option ℕ) (m : Model) (c : Certificate (List ℚ)) → IsAccepted limit m c →
    (f : Result (Known ℚ) (CheckStop ℚ) → E) →
    (f (check_run limit m c) ≡ f (check_run None m c)) ⊎ ((p : Past ℚ) × (f (check_run limit m c) ≡ f (Err
    (check.Past p))))
same_or_refused limit m c a f =
    by_accepted limit m c a (λ o. (f o ≡ f (check_run None m c)) ⊎ ((p : Past ℚ) × (f o ≡ f (Err (check.Past p)))))
    (λ e. inl (ap f (sym a.accepted))) (λ p. inr (p, refl))

pub record IsTrueEnd (limit : Option ℕ) (m : Model) (answer : Known ℚ) (c : Certificate (List ℚ)) : Type 0 where
  pub accepted : IsAccepted limit m c
  pub checks : check_run limit m c ≡ Ok answer

module _ (limit : Option ℕ) (budget : ℕ) (m : Model) (P : ExactSolveEnd → Type 0)
    (ended : (answer : Known ℚ) (c : Certificate (List ℚ)) (basis : Option (List Status)) (pivots : ℕ) →
    IsTrueEnd limit m answer c → P (outcome.Ended answer c basis pivots))
    (past : (p : Past ℚ) → P (outcome.Past p))
    (spent : (f : Form) → form_of limit m ≡ Ok f → phases_run limit budget f ≡ Err stop.Spent → P outcome.Spent) where
  by_check : (c : Certificate (List ℚ)) (basis : Option (List Status)) (pivots : ℕ) → IsAccepted limit m c →
      P (answered limit m c basis pivots)
  by_check c basis pivots a =
      by_accepted limit m c a (λ o. P (checked c basis pivots o))
      (λ e. ended (shown m c) c basis pivots (record { accepted = a; checks = e })) past

  pub by_end : P (cold limit budget m)
  unfolding cold
  by_end = with_form (form_of limit m) refl
    where
      with_phases : (f : Form) → form_of limit m ≡ Ok f → (o : Result PhasesEnd (Spending ℚ)) →
          phases_run limit budget f ≡ o → P (after_phases limit m o)
      with_phases f p (Ok e) q =
          by_check (certificate_of e) (basis_of e) (pivots_of e) (end_accepted limit budget m f e p q)
      with_phases f p (Err (stop.Past v)) q = past v
      with_phases f p (Err stop.Spent) q = spent f p q

      with_form : (o : Result Form (FormFault ℚ)) → form_of limit m ≡ o → P (after_form limit budget m o)
      with_form (Ok f) p = with_phases f p (phases_run limit budget f) refl
      with_form (Err (fault.Clash j)) p = by_check (certificate.Clash j) None 0 (clash_accepted limit m j p)
      with_form (Err (fault.Past v)) p = past v

-- ---- the laws

-- a true end with this answer and this certificate
pub end_is_true : (limit : Option ℕ) (m : Model) (a answer : Known ℚ) (d c : Certificate (List ℚ)) →
    IsTrueEnd limit m a d → a ≡ answer → d ≡ c → Holds m answer × (check_run limit m c ≡ Ok answer)
end_is_true limit m a answer d c t same_answer same_certificate =
    let checks : check_run limit m c ≡ Ok answer =
    ap (check_run limit m) (sym same_certificate) ∙ t.checks ∙ ap Ok same_answer in
    let r = run_sound limit m c answer (subst (IsFor m) same_certificate t.accepted.fits) checks in
    (subst (Holds m) (sym r.1) (checks_hold m c r.0), checks)

pub ended_is_true : (limit : Option ℕ) (budget : ℕ) (m : Model) (answer : Known ℚ) (c : Certificate (List ℚ))
    (basis : Option (List Status)) (pivots : ℕ) → cold limit budget m ≡ outcome.Ended answer c basis pivots
    → Holds m answer × (check_run limit m c ≡ Ok answer)
ended_is_true limit budget m answer c basis pivots =
    by_end limit budget m
    (λ e. e ≡ outcome.Ended answer c basis pivots → Holds m answer × (check_run limit m c ≡ Ok answer))
    (λ a d basis' pivots' t e.
    let x : a ≡ answer = cc in let z : d ≡ c = cc in end_is_true limit m a answer d c t x z)
    (λ p e. let z : ◌≡◌ {A = ExactSolveEnd} (outcome.Past p) (outcome.Ended answer c basis pivots) = e in cc)
    (λ f p q e. let z : ◌≡◌ {A = ExactSolveEnd} outcome.Spent (outcome.Ended answer c basis pivots) = e in cc)

pub spent_is_spent : (limit : Option ℕ) (budget : ℕ) (m : Model) → cold limit budget m ≡ outcome.Spent →
    (f : Form) × (form_of limit m ≡ Ok f) × (phases_run limit budget f ≡ Err stop.Spent)
spent_is_spent limit budget m =
    by_end limit budget m
    (λ e. e ≡ outcome.Spent → (f : Form) × (form_of limit m ≡ Ok f) × (phases_run limit budget f ≡ Err stop.Spent))
    (λ a d basis pivots t e. let z : ◌≡◌ {A = ExactSolveEnd} (outcome.Ended a d basis pivots) outcome.Spent = e in cc)
    (λ p e. let z : ◌≡◌ {A = ExactSolveEnd} (outcome.Past p) outcome.Spent = e in cc)
    (λ f p q e. (f, p, q))

pub enough : (limit : Option ℕ) (budget : ℕ) (m : Model) → 2 * 3 ^ (width m + 2 * height m) ≤ budget →
    ¬ (cold limit budget m ≡ outcome.Spent)
enough limit budget m h e =
    let s = spent_is_spent limit budget m e in
    let o = form_is limit m s.0 s.1 in
    let z : width m + 2 * height m ≡ width m + height m + height m = omega arith in
    phases_enough limit m o.0 o.1 budget (subst (λ k. 2 * 3 ^ k ≤ budget) z h) (ap (phases_run limit budget) o.2 ∙ s.2)
