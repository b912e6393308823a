-- The cold run over factors with its check is the cold solve without a limit, or an operation is refused.
use Rattle.std.proofs.Common.{◌≡◌, ◌⊎◌, inl, inr, ⊎_elim, ℕ, List, Option}
use Rattle.std.proofs.Common.{None, Result, Ok, Err, refl, sym, ap, ◌∙◌, subst}
use Rattle.spec_exact.specs.Fraction.{ℚ}
use Rattle.spec_exact.specs.declared.past.Past.{Past}
use Rattle.spec_model.specs.Model.{Model}
use Rattle.spec_check.specs.declared.certificate.Certificate.{Certificate}
use Rattle.spec_check.specs.Run as check
use Rattle.spec_pivot.specs.declared.status.Status.{Status}
use Rattle.spec_simplex.specs.declared.ends.RunStop.{RunStop}
use Rattle.spec_simplex.specs.declared.ends.RunStop.TheVariants as stop
use Rattle.spec_simplex.specs.Form.{Form, form_of}
use Rattle.spec_simplex.specs.Phases.{PhasesEnd, phases_run}
use Rattle.spec_check.specs.declared.solve_end.SolveEnd.TheVariants as outcome
use Rattle.spec_runs.specs.Accepted.{IsAccepted}
use Rattle.spec_runs.specs.Cold.{ExactSolveEnd, certificate_of, basis_of, pivots_of}
use Rattle.spec_runs.specs.Cold.{checked, answered, after_phases, after_form, cold}
use Rattle.spec_simplex.proofs.FormOfModel.{form_is, cost_length, cost_other}
use Rattle.spec_simplex.proofs.LimitStart.{form_without}
use Rattle.spec_simplex.proofs.FormOfModel.{form_proper}
use Rattle.spec_runs.proofs.ColdSolves.{same_or_refused, end_accepted}
use Rattle.spec_factor.specs.Over.{over_run, answer_in, after_over, over_factors}
use Rattle.spec_factor.specs.Same.{HasCosts}
use Rattle.spec_factor.proofs.OverLimits.{over_agrees}
use Rattle.spec_factor.proofs.OverPhases.{over_is}

-- the form of a model has a cost for each column, and its logicals cost 0
form_costs : (limit : Option ℕ) (m : Model) (f : Form) → form_of limit m ≡ Ok f → HasCosts f
form_costs limit m f e =
    let o = form_is limit m f e in
    subst HasCosts o.2 (record { all = cost_length m o.0 o.1; free = λ i _. cost_other m o.0 o.1 i })

module _ (limit : Option ℕ) (budget : ℕ) (m : Model) (f : Form) (formed : form_of limit m ≡ Ok f) where
  pub run_is : over_run None budget f ≡ answer_in (phases_run None budget f)
  run_is = over_is f (form_proper limit m f formed) (form_costs limit m f formed) budget

  abbrev Same : ExactSolveEnd → ExactSolveEnd → Type 0
  Same o u = (o ≡ u) ⊎ ((p : Past ℚ) × (o ≡ outcome.Past p))

  answers_same : (c : Certificate (List ℚ)) (basis : Option (List Status)) (pivots : ℕ) → IsAccepted limit m c →
      Same (answered limit m c basis pivots) (answered None m c basis pivots)
  answers_same c basis pivots a = same_or_refused limit m c a (checked c basis pivots)

  -- what is accepted without a limit is accepted at one, unless an operation is refused
  accepted_at : (e : PhasesEnd) → phases_run None budget f ≡ Ok e → IsAccepted limit m (certificate_of e)
  accepted_at e h =
      let a : IsAccepted None m (certificate_of e) = end_accepted None budget m f e (form_without limit m f formed) h in
      record {
        fits = a.fits;
        holds = a.holds;
        accepted = a.accepted;
        limited =
            subst (λ o. check.Agrees (check.check_run limit m (certificate_of e)) o) a.accepted
            (Rattle.spec_check.proofs.RunAgrees.run_agrees limit m (certificate_of e));
      }

  after_same : (o : Result PhasesEnd (RunStop ℚ)) → phases_run None budget f ≡ o →
      Same (after_over limit m (answer_in o)) (after_phases None m o)
  after_same (Ok e) h = answers_same (certificate_of e) (basis_of e) (pivots_of e) (accepted_at e h)
  after_same (Err (stop.Past p)) h = inl refl
  after_same (Err stop.Spent) h = inl refl

  pub over_same : Same (over_factors limit budget m f) (cold None budget m)
  unfolding over_factors cold
  over_same =
      ⊎_elim
      (λ e. subst (λ r. Same (after_over limit m r) (after_form None budget m (form_of None m))) (sym (e ∙ run_is))
      (subst (λ r. Same (after_over limit m (answer_in (phases_run None budget f))) (after_form None budget m r))
      (sym (form_without limit m f formed)) (after_same (phases_run None budget f) refl)))
      (λ p. inr (p.0, ap (after_over limit m) p.1))
      ((over_agrees limit budget f).same)
