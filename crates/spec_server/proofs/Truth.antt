-- What is said of a certificate with a yes is true, and so is what a solve answers.
--
-- `said_yes`: where the verdict is yes with an answer, the check's run ended with this answer.
-- `checked`: two replies of verdicts are the same only where their verdicts are.
-- `accepted_is_true`: where a session accepts a certificate, it holds a model, and what the certificate says holds of
--   it.
-- `answered_is_true`: where a session answers a solve with a known answer, it holds a model, and the answer holds of
--   it.
use Rattle.std.proofs.Common.{◌≡◌, ℕ, List, Option, Some, None, Ok, Err, refl, sym, subst, inl, inr, ◌⊎◌}
use Rattle.spec_exact.specs.Fraction.{ℚ}
use Rattle.spec_exact.specs.Narrow.{number_limit}
use Rattle.spec_model.specs.Model.{Model}
use Rattle.spec_check.specs.declared.certificate.Certificate.{Certificate}
use Rattle.spec_check.specs.declared.certificate.SettleFault.TheVariants as settle
use Rattle.spec_check.specs.declared.certificate.Known.{Known}
use Rattle.spec_check.specs.declared.certificate.CheckStop.TheVariants as stop
use Rattle.spec_check.specs.declared.certificate.Verdict.{Verdict}
use Rattle.spec_check.specs.declared.certificate.Verdict.TheVariants as verdict
use Rattle.spec_check.specs.Certificate.{Holds}
use Rattle.spec_check.specs.Raw.{ExactRaw}
use Rattle.spec_check.specs.Settle.{Settled, certificate_for}
use Rattle.spec_check.specs.Run.{Run, check_run, verdict_of}
use Rattle.spec_check.specs.declared.solve_end.SolveEnd.TheVariants as outcome
use Rattle.spec_runs.specs.Cold.{ExactSolveEnd}
use Rattle.spec_check.proofs.Fits.{settled_fits}
use Rattle.spec_check.proofs.RunSound.{run_sound}
use Rattle.spec_check.proofs.Sound.{checks_hold}
use Rattle.spec_solve.specs.Answers.{MayAnswer}
use Rattle.spec_solve.proofs.TrueAnswers.{ended_true}
use Rattle.spec_board.specs.Reads.{ExactRead}
use Rattle.spec_server.specs.declared.asks.Ask.TheVariants as ask
use Rattle.spec_server.specs.declared.asks.Reply.TheVariants as reply
use Rattle.spec_server.specs.declared.asks.Refusal.TheVariants as refusal
use Rattle.spec_server.specs.declared.command.Plain.TheVariants as command
use Rattle.spec_server.specs.Machine.{State, ExactReply, verdict_on, check_reply, solve_due, answer_of}
use Rattle.spec_server.specs.Step.{AloneStep}
use Rattle.spec_server.proofs.Simply.{Does, WantsMemory, step_simply}

pub said_yes : (run : Run (Known ℚ)) (said : Known ℚ) → verdict_of run ≡ verdict.Yes said → run ≡ Ok said
said_yes (Ok other) said e = cc
said_yes (Err (stop.No n)) said e = cc
said_yes (Err (stop.Past p)) said e = cc

pub checked : (a b : Verdict ℚ) → ◌≡◌ {A = ExactReply} (reply.Checked a) (reply.Checked b) → a ≡ b
checked a b e = cc

-- the reply that accepts a certificate
abbrev yes_to : Known ℚ → ExactReply
yes_to said = reply.Checked (verdict.Yes said)

-- where the verdict on a certificate for a model is yes, what it says is true of the model
verdict_true : (m : Model) (said : Known ℚ) (raw : ExactRaw) (r : Settled (Certificate (List ℚ))) →
    certificate_for m raw ≡ r → yes_to said ≡ verdict_on m r → Holds m said
verdict_true m said raw (Ok cert) is e =
    let ran : check_run (Some number_limit) m cert ≡ Ok said =
    said_yes (check_run (Some number_limit) m cert) said (sym (checked _ _ e)) in
    let sound = run_sound (Some number_limit) m cert said (settled_fits m raw cert is) ran in
    subst (Holds m) (sym sound.1) (checks_hold m cert sound.0)
verdict_true m said raw (Err (settle.UnknownName name)) is e = cc
verdict_true m said raw (Err (settle.Repeated name)) is e = cc

-- where the reply to CHECK is yes, a model is held of which the yes is true
reply_true : (held : Option Model) (said : Known ℚ) (raw : ExactRaw) → yes_to said ≡ check_reply held raw →
    (m : Model) × (held ≡ Some m) × Holds m said
reply_true None said raw e = cc
reply_true (Some m) said raw e = (m, refl, verdict_true m said raw (certificate_for m raw) refl e)

-- a yes to a certificate is not the reply `MEMORY`
no_memory : (said : Known ℚ) → yes_to said ≡ reply.Memory → ⊥
no_memory said e = cc

pub accepted_is_true : (places : ℕ) (old new : State) (raw : ExactRaw) (reads : List ExactRead) (said : Known ℚ) →
    AloneStep places old (ask.Checked raw) reads (yes_to said) new → (m : Model) × (old.model ≡ Some m) × Holds m said
accepted_is_true places old new raw reads said s =
    by (step_simply places old reads (yes_to said) new (ask.Checked raw) s)
  where
    by : ((yes_to said ≡ check_reply old.model raw) × (new ≡ old)) ⊎ WantsMemory old (yes_to said) new →
        (m : Model) × (old.model ≡ Some m) × Holds m said
    by (inl h) = reply_true old.model said raw h.0
    by (inr h) = absurd (no_memory said h.memory)

-- ---- solves

-- the reply that answers what is known
abbrev known_to : Known ℚ → ExactReply
known_to said = reply.Known said

-- two answers are equal where they are equal as replies
knowns_same : (a b : Known ℚ) → ◌≡◌ {A = ExactReply} (reply.Known a) (reply.Known b) → a ≡ b
knowns_same a b e = cc

-- where a solve of a model ends with a known answer, this is true of the model
solved_true : (m : Model) (budget : ℕ) (solved : ExactSolveEnd) (said : Known ℚ) → MayAnswer m budget solved →
    reply.Known said ≡ answer_of budget solved → Holds m said
solved_true m budget (outcome.Ended known cert basis pivots) said h e =
    subst (Holds m) (sym (knowns_same said known e)) (ended_true m budget known cert basis pivots h)
solved_true m budget (outcome.Past p) said h e = cc
solved_true m budget outcome.Spent said h e = cc

-- a known answer is no refusal for want of a model
refused_unknown : (said : Known ℚ) → known_to said ≡ reply.Refused refusal.NoModel → ⊥
refused_unknown said e = cc

-- a known answer is not the reply `MEMORY`
no_memory_known : (said : Known ℚ) → known_to said ≡ reply.Memory → ⊥
no_memory_known said e = cc

-- where a solve replies with a known answer, a model is held of which the answer is true
due_true : (old new : State) (held : Option Model) (said : Known ℚ) →
    Does old (solve_due old held) (known_to said) new → (m : Model) × (held ≡ Some m) × Holds m said
due_true old new None said h = absurd (refused_unknown said h.0)
due_true old new (Some m) said h =
    (m, refl, solved_true m old.budget h.end said h.may_answer h.answer)

pub answered_is_true : (places : ℕ) (old new : State) (reads : List ExactRead) (said : Known ℚ) →
    AloneStep places old (ask.Plain command.Solve) reads (known_to said) new →
    (m : Model) × (old.model ≡ Some m) × Holds m said
answered_is_true places old new reads said s =
    by (step_simply places old reads (known_to said) new (ask.Plain command.Solve) s)
  where
    by : Does old (solve_due old old.model) (known_to said) new ⊎ WantsMemory old (known_to said) new →
        (m : Model) × (old.model ≡ Some m) × Holds m said
    by (inl h) = due_true old new old.model said h
    by (inr h) = absurd (no_memory_known said h.memory)
