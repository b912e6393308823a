-- What the end of a solve says of its model.
--
-- `ends_cold`: a solve without a starting basis ends as a cold solve may.
-- `shown_infeasible`: a model with an accepted certificate of infeasibility is infeasible.
-- `tried`: where a cold solve of a model ends, what its end says as a trial is true of the model.
use Rattle.std.proofs.Common.{◌≡◌, ℕ, List, None, Some, Ok, sym, ap, ◌∙◌, subst}
use Rattle.spec_exact.specs.Fraction.{ℚ}
use Rattle.spec_exact.specs.Narrow.{number_limit}
use Rattle.spec_model.specs.Model.{Model}
use Rattle.spec_model.specs.Truth.{IsInfeasible}
use Rattle.spec_check.specs.declared.certificate.Certificate.{Certificate}
use Rattle.spec_check.specs.declared.certificate.Certificate.TheVariants.{Optimal, Infeasible, Clash, Unbounded}
use Rattle.spec_check.specs.declared.certificate.Known.{Known}
use Rattle.spec_check.specs.declared.certificate.Known.TheVariants as known
use Rattle.spec_check.specs.Certificate.{IsFor, IsNarrowCertificate, Holds}
use Rattle.spec_check.specs.Run.{check_run}
use Rattle.spec_check.proofs.RunSound.{run_sound}
use Rattle.spec_check.proofs.Sound.{checks_hold}
use Rattle.spec_check.specs.declared.solve_end.SolveEnd.TheVariants.{Ended, Past, Spent}
use Rattle.spec_runs.specs.Cold.{ExactSolveEnd}
use Rattle.spec_runs.specs.Solve.{SolveEnd}
use Rattle.spec_solve.specs.Answers.{IsSolved}
use Rattle.spec_iis.specs.Found.{EndsCold, ShowsInfeasible}
use Rattle.lp_iis.specs.Trials.{trial_by, trial_of, IsTried}

-- a solve to which nothing is handed starts cold
pub ends_cold : (m : Model) (budget : ℕ) (s : SolveEnd) → IsSolved m budget None s → EndsCold m budget s.end
ends_cold m budget s h = subst (λ r. IsSolved m budget None (record { end = s.end; route = r })) h.how_fits.0 h

-- what an accepted certificate shows
pub shown_infeasible : (m : Model) (cert : Certificate (List ℚ)) → ShowsInfeasible m cert → IsInfeasible m
shown_infeasible m cert h =
    let r = run_sound (Some number_limit) m cert known.Infeasible h.fits h.accepted in
    subst (Holds m) (sym r.1) (checks_hold m cert r.0)

-- where a certificate is of the model, has at most 127 bits and the check accepts it, what it says of the model is a
-- trial's end
tried_ended : (budget : ℕ) (m : Model) (known : Known ℚ) (cert : Certificate (List ℚ)) → IsFor m cert →
    IsNarrowCertificate cert → check_run (Some number_limit) m cert ≡ Ok known → IsTried budget m (trial_by cert)
tried_ended budget m known (Optimal x y) f n h = (run_sound (Some number_limit) m (Optimal x y) known f h).0.feasible
tried_ended budget m known (Unbounded x r) f n h = (run_sound (Some number_limit) m (Unbounded x r) known f h).0.feasible
tried_ended budget m known (Infeasible y) f n h = record {
  fits = f;
  narrow = n;
  accepted = h ∙ ap Ok (run_sound (Some number_limit) m (Infeasible y) known f h).1;
}
tried_ended budget m known (Clash j) f n h = record {
  fits = f;
  narrow = n;
  accepted = h ∙ ap Ok (run_sound (Some number_limit) m (Clash j) known f h).1;
}

-- the end of the solve
pub tried : (budget : ℕ) (m : Model) (end : ExactSolveEnd) → EndsCold m budget end → IsTried budget m (trial_of end)
tried budget m (Ended known cert basis pivots) e =
    tried_ended budget m known cert e.may_answer.0 e.may_answer.1 e.may_answer.2
tried budget m (Past p) e = (e, tt)
tried budget m Spent e = (e, tt)
