-- The whole warm start at a limit beside the one without a limit.
use Rattle.std.proofs.Common.{◌≡◌, ◌≢◌, ◌⊎◌, inl, inr, ⊎_elim, ℕ, List, Option}
use Rattle.std.proofs.Common.{None, Result, Ok, Err, refl, sym, ap, ◌∙◌, subst}
use Rattle.spec_exact.specs.Fraction.{ℚ}
use Rattle.spec_exact.specs.declared.past.Past.{Past}
use Rattle.spec_model.specs.Model.{Model}
use Rattle.spec_check.specs.declared.certificate.Certificate.{Certificate}
use Rattle.spec_check.specs.declared.certificate.Certificate.TheVariants as certificate
use Rattle.spec_check.specs.Certificate.{shown}
use Rattle.spec_pivot.specs.declared.status.Status.{Status}
use Rattle.spec_simplex.specs.declared.ends.FormFault.{FormFault}
use Rattle.spec_simplex.specs.declared.ends.FormFault.TheVariants as fault
use Rattle.spec_simplex.specs.declared.ends.RunStop.{RunStop}
use Rattle.spec_simplex.specs.declared.ends.RunStop.TheVariants as stop
use Rattle.spec_simplex.specs.Form.{Form, form_of}
use Rattle.spec_simplex.specs.Tableau.{Tableau}
use Rattle.spec_runs.specs.Accepted.{IsAccepted}
use Rattle.spec_simplex.proofs.Refusals.{Agrees, agrees_ok, agrees_err, agrees_then, agrees_as}
use Rattle.spec_simplex.proofs.LimitStart.{form_agrees}
use Rattle.spec_simplex.proofs.LimitPhases.{run_agrees}
use Rattle.spec_runs.proofs.ColdSolves.{same_or_refused, clash_accepted}
use Rattle.spec_simplex.specs.declared.ends.Fit.{Fit}
use Rattle.spec_simplex.specs.declared.ends.Fit.TheVariants as fit
use Rattle.spec_simplex.specs.declared.ends.StartStop.{StartStop}
use Rattle.spec_simplex.specs.declared.ends.StartStop.TheVariants as start
use Rattle.spec_runs.specs.declared.ends.Warm.TheVariants as outcome
use Rattle.spec_simplex.specs.declared.ends.WarmStop.{WarmStop}
use Rattle.spec_simplex.specs.declared.ends.WarmStop.TheVariants as fall
use Rattle.spec_runs.specs.Warm.{stopped_as, start_stop, run_stop, WarmEnd, ByPrimal, ByDual}
use Rattle.spec_runs.specs.Warm.{run_by, warm_run, WarmResult, warm_certificate, warm_basis, warm_pivots}
use Rattle.spec_runs.specs.Warm.{checked, answered, after_run, after_form, warm, IsBasisFor}
use Rattle.spec_runs.proofs.LimitSteps.{from_agrees, fit_agrees, dual_agrees}
use Rattle.spec_runs.proofs.TrueEnds.{run_accepted}

-- ---- stops of one kind as those of another
module _ {D E : Type 0} (kind : D → E) (first : Past ℚ → D)
    (second : Past ℚ → E) (same : (p : Past ℚ) → kind (first p) ≡ second p)
    (back : (d : D) (p : Past ℚ) → kind d ≡ second p → d ≡ first p) where
  agrees_stopped : {A : Type 0} (o u : Result A D) → Agrees first o u →
      Agrees second (stopped_as kind o) (stopped_as kind u)
  agrees_stopped {A} o u h = record {
    exact = exact u h.exact;
    same =
        ⊎_elim (λ e. inl (ap (stopped_as kind) e))
        (λ p. inr (p.0, ap (stopped_as kind) p.1 ∙ ap Err (same p.0))) h.same;
  }
    where
      exact : (u : Result A D) → ((p : Past ℚ) → u ≢ Err (first p)) → (p : Past ℚ) → stopped_as kind u ≢ Err (second p)
      exact (Ok a) n p e = let z : ◌≡◌ {A = Result A E} (Ok a) (Err (second p)) = e in cc
      exact (Err d) n p e =
          n p (let z : ◌≡◌ {A = Result A E} (Err (kind d)) (Err (second p)) = e in
          let y : kind d ≡ second p = cc in ap Err (back d p y))

-- where a stop of the start counts as a refused operation, it is that refused operation
start_back : (d : StartStop ℚ) (p : Past ℚ) → start_stop d ≡ fall.Past p → d ≡ start.Past p
start_back start.Singular p e = let z : ◌≡◌ {A = WarmStop ℚ} fall.Singular (fall.Past p) = e in cc
start_back (start.Past q) p e =
    let z : ◌≡◌ {A = WarmStop ℚ} (fall.Past q) (fall.Past p) = e in let y : q ≡ p = cc in ap start.Past y

-- where a stop of the run counts as a refused operation, it is that refused operation
run_back : (d : RunStop ℚ) (p : Past ℚ) → run_stop d ≡ fall.Past p → d ≡ stop.Past p
run_back stop.Spent p e = let z : ◌≡◌ {A = WarmStop ℚ} fall.Spent (fall.Past p) = e in cc
run_back (stop.Past q) p e =
    let z : ◌≡◌ {A = WarmStop ℚ} (fall.Past q) (fall.Past p) = e in let y : q ≡ p = cc in ap stop.Past y

-- ---- the run
module _ (limit : Option ℕ) (budget : ℕ) where
  by_agrees : (t : Tableau) (kind : Fit) → Agrees fall.Past (run_by limit budget t kind) (run_by None budget t kind)
  by_agrees t fit.Primal =
      agrees_then fall.Past _ _ _ _
      (agrees_stopped run_stop stop.Past fall.Past (λ p. refl) run_back _ _ (run_agrees limit budget 0 t))
      (λ e. agrees_ok fall.Past (ByPrimal e))
  by_agrees t fit.Dual =
      agrees_then fall.Past _ _ _ _
      (agrees_stopped run_stop stop.Past fall.Past (λ p. refl) run_back _ _ (dual_agrees limit budget t))
      (λ e. agrees_ok fall.Past (ByDual e))
  by_agrees t fit.Unfit =
      agrees_err fall.Past fall.Unfit (λ p e. let z : ◌≡◌ {A = WarmStop ℚ} fall.Unfit (fall.Past p) = e in cc)

  -- without a limit the run from a basis is never refused; at a limit it is the same, or it is refused
  pub warm_run_agrees : (f : Form) (basis : List Status) →
      Agrees fall.Past (warm_run limit budget f basis) (warm_run None budget f basis)
  unfolding warm_run
  warm_run_agrees f basis =
      agrees_then fall.Past _ _ _ _
      (agrees_stopped start_stop start.Past fall.Past (λ p. refl) start_back _ _ (from_agrees limit f basis)) (λ t.
      agrees_then fall.Past _ _ _ _ (agrees_as fall.Past _ _ (fit_agrees limit t)) (λ kind. by_agrees t kind))

-- ---- the whole
module _ (limit : Option ℕ) (budget : ℕ) (m : Model) (basis : List Status) (fits : IsBasisFor limit m basis) where
  abbrev Same : WarmResult → WarmResult → Type 0
  Same o u = (o ≡ u) ⊎ ((p : Past ℚ) × (o ≡ outcome.Stopped (fall.Past p)))

  answers_agree : (c : Certificate (List ℚ)) (left : Option (List Status)) (pivots : ℕ) → IsAccepted limit m c →
      Same (answered limit m c left pivots) (answered None m c left pivots)
  answers_agree c left pivots a = same_or_refused limit m c a (checked c left pivots)

  runs_same : (f : Form) → form_of limit m ≡ Ok f →
      Same (after_run limit m (warm_run limit budget f basis)) (after_run None m (warm_run None budget f basis))
  runs_same f e =
      by (warm_run limit budget f basis) (warm_run None budget f basis) refl (warm_run_agrees limit budget f basis).same
    where
      by : (o u : Result WarmEnd (WarmStop ℚ)) → warm_run limit budget f basis ≡ o →
          (o ≡ u) ⊎ ((p : Past ℚ) × (o ≡ Err (fall.Past p))) → Same (after_run limit m o) (after_run None m u)
      by o u q (inr p) = inr (p.0, ap (after_run limit m) p.1)
      by (Ok end) u q (inl z) =
          subst (λ u. Same (after_run limit m (Ok end)) (after_run None m u)) z
          (answers_agree (warm_certificate end) (warm_basis end) (warm_pivots end)
          (run_accepted limit budget m f basis end e (fits f e) q))
      by (Err s) u q (inl z) = inl (ap (after_run None m) z)

  pub warm_same : Same (warm limit budget m basis) (warm None budget m basis)
  unfolding warm
  warm_same = by (form_of limit m) (form_of None m) refl (form_agrees limit m).same
    where
      by : (o u : Result Form (FormFault ℚ)) → form_of limit m ≡ o →
          (o ≡ u) ⊎ ((p : Past ℚ) × (o ≡ Err (fault.Past p))) →
          Same (after_form limit budget m basis o) (after_form None budget m basis u)
      by o u q (inr p) = inr (p.0, ap (after_form limit budget m basis) p.1)
      by (Ok f) u q (inl z) =
          subst (λ u. Same (after_form limit budget m basis (Ok f)) (after_form None budget m basis u)) z
          (runs_same f q)
      by (Err (fault.Clash j)) u q (inl z) =
          subst (λ u. Same (after_form limit budget m basis (Err (fault.Clash j))) (after_form None budget m basis u)) z
          (answers_agree (certificate.Clash j) None 0 (clash_accepted limit m j q))
      by (Err (fault.Past p)) u q (inl z) = inr (p, refl)

-- ---- without a limit

-- without a limit, a warm start whose certificate is accepted is not stopped by a refused operation
checked_never_past : (m : Model) (c : Certificate (List ℚ)) (left : Option (List Status)) (pivots : ℕ) →
    IsAccepted None m c → (p : Past ℚ) → ¬ (answered None m c left pivots ≡ outcome.Stopped (fall.Past p))
checked_never_past m c left pivots a p e =
    let z : ◌≡◌ {A = WarmResult} (outcome.Ended (shown m c) c left pivots) (outcome.Stopped (fall.Past p)) =
    sym (ap (checked c left pivots) a.accepted) ∙ e in
    cc

-- without a limit, a warm start from a basis of the model is never stopped by a refused operation
pub never_past : (budget : ℕ) (m : Model) (basis : List Status) (p : Past ℚ) → IsBasisFor None m basis →
    ¬ (warm None budget m basis ≡ outcome.Stopped (fall.Past p))
unfolding warm
never_past budget m basis p fits = by (form_of None m) refl (form_agrees None m).exact
  where
    with_run : (f : Form) → form_of None m ≡ Ok f → (o : Result WarmEnd (WarmStop ℚ)) →
        warm_run None budget f basis ≡ o → ((p : Past ℚ) → o ≢ Err (fall.Past p)) →
        ¬ (after_run None m o ≡ outcome.Stopped (fall.Past p))
    with_run f e (Ok end) q n =
        checked_never_past m (warm_certificate end) (warm_basis end)
        (warm_pivots end) (run_accepted None budget m f basis end e (fits f e) q) p
    with_run f e (Err s) q n =
        λ z. let y : ◌≡◌ {A = WarmResult} (outcome.Stopped s) (outcome.Stopped (fall.Past p)) = z in
        let x : s ≡ fall.Past p = cc in n p (ap Err x)

    by : (o : Result Form (FormFault ℚ)) → form_of None m ≡ o → ((p : Past ℚ) → o ≢ Err (fault.Past p)) →
        ¬ (after_form None budget m basis o ≡ outcome.Stopped (fall.Past p))
    by (Ok f) e n = with_run f e (warm_run None budget f basis) refl (warm_run_agrees None budget f basis).exact
    by (Err (fault.Clash j)) e n = checked_never_past m (certificate.Clash j) None 0 (clash_accepted None m j e) p
    by (Err (fault.Past v)) e n = absurd (n v refl)
