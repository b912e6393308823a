-- What the checker says yes to, at the limit of the server's numbers, is true, and an optimal value is of at most 127
-- bits.
--
-- `shown_holds`: what a certificate that the checker accepts says of a model holds of it.
-- `value_fits`: an optimal value that the checker accepts has at most 127 bits.
-- `yes_shown`: where the reply to a certificate is yes, the checker accepts it for the model.
-- `answer_shown`: a known answer to a solve has a certificate that the checker accepts.
-- `answer_holds`: an answer with an accepted certificate is true of the model; `PAST` and `SPENT` say nothing of it.
use Rattle.std.proofs.Common.{◌≡◌, ℕ, List, Some, Ok, Err, refl, sym, ap, subst}
use Rattle.spec_exact.specs.Fraction.{ℚ}
use Rattle.spec_exact.specs.Limit.{add}
use Rattle.spec_exact.specs.Answer.{told}
use Rattle.spec_exact.specs.Narrow.{IsNarrow, number_limit}
use Rattle.spec_exact.specs.declared.past.Op.TheVariants.{Add}
use Rattle.spec_exact.proofs.Results.{ok_same}
use Rattle.spec_model.specs.Model.{Model, width, height}
use Rattle.spec_check.specs.declared.certificate.Certificate.{Certificate}
use Rattle.spec_check.specs.declared.certificate.Certificate.TheVariants.{Optimal, Infeasible, Clash, Unbounded}
use Rattle.spec_check.specs.declared.certificate.Known.{Known}
use Rattle.spec_check.specs.declared.certificate.Known.TheVariants as known
use Rattle.spec_check.specs.declared.certificate.SettleFault.TheVariants as settle
use Rattle.spec_check.specs.declared.certificate.Verdict.TheVariants as verdict
use Rattle.spec_check.specs.Certificate.{IsFor, Holds}
use Rattle.spec_check.specs.Run.{step, each, columns_run, rows_run, column_tight_run, row_tight_run, cost_run}
use Rattle.spec_check.specs.Run.{value_run, check_run}
use Rattle.spec_check.specs.Settle.{Settled, certificate_for}
use Rattle.spec_check.specs.Raw.{ExactRaw}
use Rattle.spec_check.proofs.Fits.{settled_fits}
use Rattle.spec_check.proofs.RunSound.{run_sound}
use Rattle.spec_check.proofs.Sound.{checks_hold}
use Rattle.spec_check.proofs.InfeasibleSound.{infeasible_ok, clash_ok}
use Rattle.spec_check.proofs.UnboundedSound.{unbounded_ok}
use Rattle.spec_check.proofs.StepsSound.{after_ok, step_ok}
use Rattle.spec_check.specs.declared.solve_end.SolveEnd.TheVariants as outcome
use Rattle.spec_runs.specs.Cold.{ExactSolveEnd}
use Rattle.spec_solve.specs.Answers.{MayAnswer}
use Rattle.spec_solve.proofs.NarrowRuns.{sum_narrow}
use Rattle.spec_server.specs.declared.asks.Reply.TheVariants as reply
use Rattle.spec_server.specs.Machine.{ExactReply, verdict_on, answer_of}
use Rattle.spec_server.proofs.Truth.{said_yes, checked}
use Rattle.spec_truth.specs.TrueAnswer.{IsTrueOf}

-- the model has a certificate by which the checker, in numbers of at most 127 bits, says this answer
pub record IsShown (m : Model) (what : Known ℚ) : Type 0 where
  pub cert : Certificate (List ℚ)
  pub fits : IsFor m cert
  pub says : check_run (Some number_limit) m cert ≡ Ok what

pub shown_holds : (m : Model) (what : Known ℚ) → IsShown m what → Holds m what
shown_holds m what s =
    let sound = run_sound (Some number_limit) m s.cert what s.fits s.says in
    subst (Holds m) (sym sound.1) (checks_hold m s.cert sound.0)

-- ---- the value

-- a sum that is computed at the limit of the server's numbers has at most 127 bits
added_narrow : (v w x : ℚ) → step Add v w (add (Some number_limit) v w) ≡ Ok x → IsNarrow x
added_narrow v w x h = sum_narrow v w x (ap (told Add v w) (step_ok Add v w (add (Some number_limit) v w) x h))

-- the value of a point, computed at the limit of the server's numbers, has at most 127 bits
value_narrow : (m : Model) (x : List ℚ) (v : ℚ) → value_run (Some number_limit) m x ≡ Ok v → IsNarrow v
value_narrow m x v h =
    let a =
    after_ok (cost_run (Some number_limit) m x) (λ s. step Add s m.offset (add (Some number_limit) s m.offset)) v
    h in
    added_narrow a.0 m.offset v a.2

-- two optimal values that make the same known answer are the same
same_value : (v w : ℚ) → ◌≡◌ {A = Known ℚ} (known.Optimal v) (known.Optimal w) → v ≡ w
same_value v w e = cc

-- an optimal value to which the checker says yes at the limit has at most 127 bits
optimal_narrow : (m : Model) (cert : Certificate (List ℚ)) (v : ℚ) → IsFor m cert →
    check_run (Some number_limit) m cert ≡ Ok (known.Optimal v) → IsNarrow v
unfolding check_run
optimal_narrow m (Optimal x y) v f h =
    let a = after_ok (columns_run (Some number_limit) m x) _ (known.Optimal v) h in
    let b = after_ok (rows_run (Some number_limit) m x) _ (known.Optimal v) a.2 in
    let c = after_ok (each (width m) (column_tight_run (Some number_limit) m x y)) _ (known.Optimal v) b.2 in
    let d = after_ok (each (height m) (row_tight_run (Some number_limit) m x y)) _ (known.Optimal v) c.2 in
    let w = after_ok (value_run (Some number_limit) m x) (λ v. Ok (known.Optimal v)) (known.Optimal v) d.2 in
    subst IsNarrow (same_value w.0 v (ok_same (known.Optimal w.0) (known.Optimal v) w.2)) (value_narrow m x w.0 w.1)
optimal_narrow m (Infeasible y) v f h = let e = (infeasible_ok (Some number_limit) m y (known.Optimal v) h).1 in cc
optimal_narrow m (Clash j) v f h = let e = (clash_ok (Some number_limit) m j (known.Optimal v) f h).1 in cc
optimal_narrow m (Unbounded x r) v f h =
    let e = (unbounded_ok (Some number_limit) m x r (known.Optimal v) f.0 h).1 in cc

pub value_fits : (m : Model) (v : ℚ) → IsShown m (known.Optimal v) → IsNarrow v
value_fits m v s = optimal_narrow m s.cert v s.fits s.says

-- ---- what says so

-- a yes to a certificate that is put to the model
pub yes_shown : (m : Model) (raw : ExactRaw) (what : Known ℚ) →
    verdict_on m (certificate_for m raw) ≡ reply.Checked (verdict.Yes what) → IsShown m what
yes_shown m raw what h = by (certificate_for m raw) refl h
  where
    by : (r : Settled (Certificate (List ℚ))) → certificate_for m raw ≡ r →
        verdict_on m r ≡ reply.Checked (verdict.Yes what) → IsShown m what
    by (Ok cert) is e =
        record {
          cert = cert;
          fits = settled_fits m raw cert is;
          says = said_yes (check_run (Some number_limit) m cert) what (checked _ _ e);
        }
    by (Err (settle.UnknownName name)) is e = cc
    by (Err (settle.Repeated name)) is e = cc

-- the reply answers a solve, and what it says is shown; PAST and SPENT say nothing
abbrev pub IsShownBy : Model → ExactReply → Type 0
IsShownBy m (reply.Known what) = IsShown m what
IsShownBy m (reply.Past p) = Unit {0}
IsShownBy m (reply.Spent budget) = Unit {0}
IsShownBy m replied = ⊥

pub answer_shown : (m : Model) (budget : ℕ) (solved : ExactSolveEnd) → MayAnswer m budget solved →
    IsShownBy m (answer_of budget solved)
answer_shown m budget (outcome.Ended what cert basis pivots) h = record { cert = cert; fits = h.0; says = h.2 }
answer_shown m budget (outcome.Past p) h = tt
answer_shown m budget outcome.Spent h = tt

pub answer_holds : (m : Model) (a : ExactReply) → IsShownBy m a → IsTrueOf m a
answer_holds m (reply.Known (known.Optimal v)) s = shown_holds m (known.Optimal v) s
answer_holds m (reply.Known known.Infeasible) s = shown_holds m known.Infeasible s
answer_holds m (reply.Known known.Unbounded) s = shown_holds m known.Unbounded s
answer_holds m (reply.Past p) s = tt
answer_holds m (reply.Spent budget) s = tt
answer_holds m replied s = absurd s
