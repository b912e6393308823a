-- Where the run over factors ends or is spent, so is the one on whole tableaus without a limit.
use Rattle.std.proofs.Common.{◌≡◌, ⊎_elim, ℕ, Some, None, Result, Ok, Err, sym, ap, ◌∙◌}
use Rattle.spec_exact.specs.Fraction.{ℚ}
use Rattle.spec_exact.specs.declared.past.Past.{Past}
use Rattle.spec_exact.specs.Narrow.{number_limit}
use Rattle.spec_model.specs.Model.{Model}
use Rattle.spec_simplex.specs.declared.ends.RunStop.{RunStop}
use Rattle.spec_simplex.specs.declared.ends.RunStop.TheVariants as cause
use Rattle.spec_simplex.specs.Form.{Form, form_of}
use Rattle.spec_simplex.specs.Phases.{PhasesEnd, phases_run}
use Rattle.spec_factor.specs.Over.{OverEnd, over_run, answer_of, answer_in}
use Rattle.spec_factor.proofs.OverCold.{run_is}
use Rattle.spec_factor.proofs.OverLimits.{over_agrees}
use Rattle.lp_revised.specs.declared.cold_run.RunEnd.{RunEnd}
use Rattle.lp_frac.specs.declared.stop.Stop.{Stop}
use Rattle.lp_revised.specs.declared.stop.Spent.{Spent}
use Rattle.lp_frac.specs.declared.stop.Stop.TheVariants as stop
use Rattle.lp_revised.specs.Runs.{EndsOver, EndsWhole, over_end}

-- how a run over factors ends, or why it stops
abbrev Outcome : Type 0
Outcome = Result OverEnd (RunStop ℚ)

-- where the answer of a run on whole tableaus is that it is spent, the run is
is_spent : (whole : Result PhasesEnd (RunStop ℚ)) → answer_in whole ≡ Err cause.Spent → whole ≡ Err cause.Spent
is_spent (Ok e) h = let z : ◌≡◌ {A = Outcome} (Ok (answer_of e)) (Err cause.Spent) = h in cc
is_spent (Err s) h = let z : ◌≡◌ {A = Outcome} (Err s) (Err cause.Spent) = h in let y : s ≡ cause.Spent = cc in ap Err y

module _ (budget : ℕ) (m : Model) (f : Form) (formed : form_of (Some number_limit) m ≡ Ok f) where
  abbrev limited : Outcome
  limited = over_run (Some number_limit) budget f

  -- where the run over factors at the limit ends as r, and r is no refusal of a number, the run on whole tableaus
  -- without a limit answers r
  is_whole : (r : Outcome) → limited ≡ r → ((p : Past ℚ) → r ≡ Err (cause.Past p) → ⊥) →
      answer_in (phases_run None budget f) ≡ r
  is_whole r h n =
      ⊎_elim
      (λ q. sym (run_is (Some number_limit) budget m f formed) ∙ sym q ∙ h)
      (λ p. absurd (n p.0 (sym h ∙ p.1)))
      ((over_agrees (Some number_limit) budget f).same)

  -- where a result ends the run over factors, or is spent with it, it does so for the run on whole tableaus without a
  -- limit
  pub ends_whole : (result : Result RunEnd (Stop Spent)) → EndsOver limited result → EndsWhole
      (phases_run None budget f) result
  ends_whole (Ok e) h =
      is_whole (Ok (over_end e)) h (λ p z. let y : ◌≡◌ {A = Outcome} (Ok (over_end e)) (Err (cause.Past p)) = z in cc)
  ends_whole (Err (stop.Past p)) h = tt
  ends_whole (Err (stop.Cause why)) h =
      is_spent (phases_run None budget f)
      (is_whole (Err cause.Spent) h (λ p z. let y : ◌≡◌ {A = Outcome} (Err cause.Spent) (Err (cause.Past p)) = z in cc))
  ends_whole (Err stop.NoMemory) h = tt
