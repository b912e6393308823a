-- A reply that answers, or says yes to a certificate, is shown of the model that the session holds, whatever was asked.
--
-- `answer_is_shown`: where a step replies with a known answer, the session holds a model of which it is shown.
-- `yes_is_shown`: where a step replies with a yes, the session holds a model of which what it says is shown.
-- `wide_is_shown`: where a step replies with the lines of a wide solve, the session holds a model and the lines begin
--   truly.
use Rattle.std.proofs.Common.{◌≡◌, ℕ, suc, List, Option, Some, None, Ok, Err, refl, sym, ◌∙◌, ap, subst, ◌⊎◌, inl, inr}
use Rattle.std.proofs.Common.{arith}
use Rattle.spec_exact.specs.Fraction.{ℚ}
use Rattle.spec_model.specs.Model.{Model, Name}
use Rattle.spec_mps.specs.declared.style.Style.{Style}
use Rattle.spec_mps.specs.declared.style.Style.TheVariants as style
use Rattle.spec_mps.specs.Written.{too_wide}
use Rattle.spec_check.specs.declared.certificate.Certificate.{Certificate}
use Rattle.spec_check.specs.declared.certificate.Known.{Known}
use Rattle.spec_check.specs.declared.certificate.Verdict.TheVariants as verdict
use Rattle.spec_check.specs.declared.certificate.SettleFault.TheVariants as settle
use Rattle.spec_check.specs.Settle.{Settled, certificate_for}
use Rattle.spec_check.specs.Raw.{ExactRaw}
use Rattle.spec_edit.specs.declared.edit.EditFault.{EditFault}
use Rattle.spec_edit.specs.declared.edit.EditFault.TheVariants as fault
use Rattle.spec_edit.specs.Edited.{ExactEdit, OrFault, edited}
use Rattle.spec_server.specs.declared.asks.Ask.TheVariants as ask
use Rattle.spec_server.specs.declared.asks.Reply.TheVariants as reply
use Rattle.spec_server.specs.declared.asks.Refusal.TheVariants as refusal
use Rattle.spec_server.specs.declared.command.Plain.TheVariants as command
use Rattle.spec_check.specs.declared.solve_end.SolveEnd.TheVariants as outcome
use Rattle.spec_runs.specs.Cold.{ExactSolveEnd}
use Rattle.spec_board.specs.Reads.{ExactRead}
use Rattle.spec_server.specs.Machine.{ExactAsk, ExactReply, ExactLastAnswer, State, verdict_on, check_reply}
use Rattle.spec_server.specs.Machine.{fixed_reply, write_reply, cert_reply, how_reply, Due, Replies, Solves, SolvesWide}
use Rattle.spec_server.specs.Machine.{answer_of, due, solve_due, wide_due, edit_refusal, edit_due, change_due}
use Rattle.spec_server.specs.Step.{AloneStep}
use Rattle.spec_server.proofs.Simply.{Does, WantsMemory, step_simply}
use Rattle.spec_server.specs.WideLines.{wide_lines}
use Rattle.spec_truth.proofs.Shown.{IsShown, IsShownBy, answer_shown, yes_shown}
use Rattle.spec_truth.proofs.WideReplies.{BeginsTrue, lines_true}

-- ---- which replies answer, which speak of a certificate, and which are of a wide solve

-- The sort of a reply: 1 for one that a solve may give, known or not; 2 for a verdict on a certificate; 3 for the lines
-- of a wide solve; 0 for every other.
abbrev sort : ExactReply → ℕ
sort (reply.Known what) = 1
sort (reply.Past p) = 1
sort (reply.Spent budget) = 1
sort (reply.Checked what) = 2
sort (reply.Wide lines) = 3
sort replied = 0

-- the sort of the reply that is due: of the reply where that is known, 1 for a solve, 3 for a wide solve
abbrev due_sort : Due → ℕ
due_sort (Replies replied next) = sort replied
due_sort (Solves m) = 1
due_sort (SolvesWide m) = 3

-- the reply to WRITE is no answer, no verdict and no reply of a wide solve
write_sort : (held : Option Model) (form : Style) → sort (write_reply held form) ≡ 0
write_sort None form = refl
write_sort (Some m) style.Free = refl
write_sort (Some m) style.Fixed = by (too_wide m)
  where
    by : (item : Option (List ℕ)) → sort (fixed_reply m item) ≡ 0
    by None = refl
    by (Some item) = refl

-- the reply to CERT is no answer, no verdict and no reply of a wide solve
cert_sort : (held : Option Model) (last : Option ExactLastAnswer) → sort (cert_reply held last) ≡ 0
cert_sort None last = refl
cert_sort (Some m) None = refl
cert_sort (Some m) (Some last) = refl

-- the reply to HOW is no answer, no verdict and no reply of a wide solve
how_sort : (last : Option ExactLastAnswer) → sort (how_reply last) ≡ 0
how_sort None = refl
how_sort (Some last) = refl

-- the reply that refuses an edit is no answer, no verdict and no reply of a wide solve
refusal_sort : (why : EditFault Name) → sort (edit_refusal why) ≡ 0
refusal_sort (fault.UnknownName name) = refl
refusal_sort (fault.Taken name) = refl
refusal_sort (fault.Limit which count) = refl
refusal_sort fault.BadName = refl
refusal_sort (fault.Repeated name) = refl
refusal_sort (fault.FreeRow name) = refl

-- what a session does for an edit is no answer, no verdict and no reply of a wide solve
edit_sort : (state : State) (r : OrFault Model) → due_sort (edit_due state r) ≡ 0
edit_sort state (Ok m) = refl
edit_sort state (Err why) = refusal_sort why

-- what is due to an edit, with a model or without, is no answer, no verdict and no reply of a wide solve
change_sort : (state : State) (held : Option Model) (e : ExactEdit) → due_sort (change_due state held e) ≡ 0
change_sort state None e = refl
change_sort state (Some m) e = edit_sort state (edited m e)

-- a reply with a verdict on a certificate is no answer
verdict_sort : (m : Model) (r : Settled (Certificate (List ℚ))) → sort (verdict_on m r) ≡ 1 → ⊥
verdict_sort m (Ok cert) h = cc
verdict_sort m (Err (settle.UnknownName name)) h = cc
verdict_sort m (Err (settle.Repeated name)) h = cc

-- a reply with a verdict on a certificate is none of a wide solve
verdict_not_wide : (m : Model) (r : Settled (Certificate (List ℚ))) → sort (verdict_on m r) ≡ 3 → ⊥
verdict_not_wide m (Ok cert) h = cc
verdict_not_wide m (Err (settle.UnknownName name)) h = cc
verdict_not_wide m (Err (settle.Repeated name)) h = cc

-- the reply to CHECK is none of a wide solve
check_not_wide : (held : Option Model) (raw : ExactRaw) → sort (check_reply held raw) ≡ 3 → ⊥
check_not_wide None raw h = cc
check_not_wide (Some m) raw h = verdict_not_wide m (certificate_for m raw) h

-- the reply to CHECK is no answer
check_sort : (held : Option Model) (raw : ExactRaw) → sort (check_reply held raw) ≡ 1 → ⊥
check_sort None raw h = cc
check_sort (Some m) raw h = verdict_sort m (certificate_for m raw) h

-- what a session does for a solve is no verdict on a certificate
solve_sort : (state : State) (held : Option Model) → due_sort (solve_due state held) ≡ 2 → ⊥
solve_sort state None h = cc
solve_sort state (Some m) h = cc

-- what a session does for a solve is no reply of a wide solve
solve_not_wide : (state : State) (held : Option Model) → due_sort (solve_due state held) ≡ 3 → ⊥
solve_not_wide state None h = cc
solve_not_wide state (Some m) h = cc

-- what a session does for a wide solve is no answer of a solve
wide_no_answer : (state : State) (held : Option Model) → due_sort (wide_due state held) ≡ 1 → ⊥
wide_no_answer state None h = cc
wide_no_answer state (Some m) h = cc

-- what a session does for a wide solve is no verdict on a certificate
wide_no_yes : (state : State) (held : Option Model) → due_sort (wide_due state held) ≡ 2 → ⊥
wide_no_yes state None h = cc
wide_no_yes state (Some m) h = cc

-- the reply to a solve is of the sort of answers, whether it knows one or not
answer_sort : (budget : ℕ) (end : ExactSolveEnd) → sort (answer_of budget end) ≡ 1
answer_sort budget (outcome.Ended known certificate basis pivots) = refl
answer_sort budget (outcome.Past p) = refl
answer_sort budget outcome.Spent = refl

-- a reply is of the sort that is due
done_sort : (old new : State) (what : Due) (replied : ExactReply) → Does old what replied new →
    sort replied ≡ due_sort what
done_sort old new (Replies stated next) replied d = ap sort d.0
done_sort old new (Solves m) replied d = ap sort d.answer ∙ answer_sort old.budget d.end
done_sort old new (SolvesWide m) replied d = ap sort d.answer

-- where a step's reply is an answer, a verdict, or one of a wide solve, the step does what is due
step_done : (places : ℕ) (old new : State) (asked : ExactAsk) (reads : List ExactRead) (replied : ExactReply) (n : ℕ) →
    AloneStep places old asked reads replied new → sort replied ≡ suc n → Does old (due old asked) replied new
step_done places old new asked reads replied n s h = by (step_simply places old reads replied new asked s)
  where
    by : Does old (due old asked) replied new ⊎ WantsMemory old replied new → Does old (due old asked) replied new
    by (inl d) = d
    by (inr w) = absurd (let e : sort replied ≡ 0 = ap sort w.memory in omega (arith, e))

-- ---- what is shown of the model that is held

-- a model is held, and it has a certificate by which the checker says this answer
pub record IsShownOfHeld (held : Option Model) (what : Known ℚ) : Type 0 where
  pub model : Model
  pub is_held : held ≡ Some model
  pub shown : IsShown model what

-- where a solve replies with a known answer, this is shown of the model that is held
solve_shown : (old new : State) (held : Option Model) (what : Known ℚ) →
    Does old (solve_due old held) (reply.Known what) new → IsShownOfHeld held what
solve_shown old new None what d =
    let e : ◌≡◌ {A = ExactReply} (reply.Known what) (reply.Refused refusal.NoModel) = d.0 in cc
solve_shown old new (Some m) what d =
    record {
      model = m;
      is_held = refl;
      shown = subst (IsShownBy m) (sym d.answer) (answer_shown m old.budget d.end d.may_answer);
    }

-- where the reply to CHECK says yes, what it says is shown of the model that is held
check_shown : (held : Option Model) (raw : ExactRaw) (what : Known ℚ) →
    reply.Checked (verdict.Yes what) ≡ check_reply held raw → IsShownOfHeld held what
check_shown None raw what e = cc
check_shown (Some m) raw what e = record { model = m; is_held = refl; shown = yes_shown m raw what (sym e) }

-- where a request to which an answer is due is answered, the answer is shown of the model that is held
answer_by : (old new : State) (asked : ExactAsk) (what : Known ℚ) → 1 ≡ due_sort (due old asked) →
    Does old (due old asked) (reply.Known what) new → IsShownOfHeld old.model what
answer_by old new (ask.Plain command.Solve) what h d = solve_shown old new old.model what d
answer_by old new (ask.Plain (command.Write form)) what h d =
    let e = write_sort old.model form in absurd (omega (arith, e))
answer_by old new (ask.Plain command.Cert) what h d = let e = cert_sort old.model old.last in absurd (omega (arith, e))
answer_by old new (ask.Plain command.How) what h d = let e = how_sort old.last in absurd (omega (arith, e))
answer_by old new (ask.Plain (command.Change e)) what h d =
    let z = change_sort old old.model e in absurd (omega (arith, z))
answer_by old new (ask.Plain command.Wide) what h d = absurd (wide_no_answer old old.model (sym h))
answer_by old new (ask.Checked raw) what h d = absurd (check_sort old.model raw (sym h))
answer_by old new asked what h d = cc

pub answer_is_shown : (places : ℕ) (old new : State) (asked : ExactAsk) (reads : List ExactRead) (what : Known ℚ) →
    AloneStep places old asked reads (reply.Known what) new → IsShownOfHeld old.model what
answer_is_shown places old new asked reads what s =
    let d = step_done places old new asked reads (reply.Known what) 0 s refl in
    answer_by old new asked what (done_sort old new (due old asked) (reply.Known what) d) d

-- where a request to which a verdict is due is told yes, what the yes says is shown of the model that is held
yes_by : (old new : State) (asked : ExactAsk) (what : Known ℚ) → 2 ≡ due_sort (due old asked) →
    Does old (due old asked) (reply.Checked (verdict.Yes what)) new → IsShownOfHeld old.model what
yes_by old new (ask.Checked raw) what h d = check_shown old.model raw what d.0
yes_by old new (ask.Plain command.Wide) what h d = absurd (wide_no_yes old old.model (sym h))
yes_by old new (ask.Plain command.Solve) what h d = absurd (solve_sort old old.model (sym h))
yes_by old new (ask.Plain (command.Write form)) what h d =
    let e = write_sort old.model form in absurd (omega (arith, e))
yes_by old new (ask.Plain command.Cert) what h d = let e = cert_sort old.model old.last in absurd (omega (arith, e))
yes_by old new (ask.Plain command.How) what h d = let e = how_sort old.last in absurd (omega (arith, e))
yes_by old new (ask.Plain (command.Change e)) what h d =
    let z = change_sort old old.model e in absurd (omega (arith, z))
yes_by old new asked what h d = cc

pub yes_is_shown : (places : ℕ) (old new : State) (asked : ExactAsk) (reads : List ExactRead) (what : Known ℚ) →
    AloneStep places old asked reads (reply.Checked (verdict.Yes what)) new → IsShownOfHeld old.model what
yes_is_shown places old new asked reads what s =
    let d = step_done places old new asked reads (reply.Checked (verdict.Yes what)) 1 s refl in
    yes_by old new asked what (done_sort old new (due old asked) (reply.Checked (verdict.Yes what)) d) d

-- ---- an exact solve

-- a model is held, and the first of the lines is a true answer of it, or the one that says that nothing is known
pub record IsWideOfHeld (held : Option Model) (lines : List (List ℕ)) : Type 0 where
  pub model : Model
  pub is_held : held ≡ Some model
  pub begins : BeginsTrue model lines

-- two replies of a wide solve that are the same have the same lines
lines_same : (a b : List (List ℕ)) → ◌≡◌ {A = ExactReply} (reply.Wide a) (reply.Wide b) → a ≡ b
lines_same a b e = cc

-- where a wide solve replies with lines, they begin as is true of the model that is held
wide_shown : (old new : State) (held : Option Model) (lines : List (List ℕ)) →
    Does old (wide_due old held) (reply.Wide lines) new → IsWideOfHeld held lines
wide_shown old new None lines d =
    let e : ◌≡◌ {A = ExactReply} (reply.Wide lines) (reply.Refused refusal.NoModel) = d.0 in cc
wide_shown old new (Some m) lines d =
    record {
      model = m;
      is_held = refl;
      begins = subst (BeginsTrue m) (sym (lines_same lines (wide_lines m d.end) d.answer))
          (lines_true m old.budget d.end d.is_end);
    }

-- where a request to which lines of a wide solve are due has lines as its reply, they begin as is true of the model
wide_by : (old new : State) (asked : ExactAsk) (lines : List (List ℕ)) → 3 ≡ due_sort (due old asked) →
    Does old (due old asked) (reply.Wide lines) new → IsWideOfHeld old.model lines
wide_by old new (ask.Plain command.Wide) lines h d = wide_shown old new old.model lines d
wide_by old new (ask.Plain command.Solve) lines h d = absurd (solve_not_wide old old.model (sym h))
wide_by old new (ask.Plain (command.Write form)) lines h d =
    let e = write_sort old.model form in absurd (omega (arith, e))
wide_by old new (ask.Plain command.Cert) lines h d = let e = cert_sort old.model old.last in absurd (omega (arith, e))
wide_by old new (ask.Plain command.How) lines h d = let e = how_sort old.last in absurd (omega (arith, e))
wide_by old new (ask.Plain (command.Change e)) lines h d =
    let z = change_sort old old.model e in absurd (omega (arith, z))
wide_by old new (ask.Checked raw) lines h d = absurd (check_not_wide old.model raw (sym h))
wide_by old new asked lines h d = cc

pub wide_is_shown : (places : ℕ) (old new : State) (asked : ExactAsk) (reads : List ExactRead) (lines : List (List ℕ)) →
    AloneStep places old asked reads (reply.Wide lines) new → IsWideOfHeld old.model lines
wide_is_shown places old new asked reads lines s =
    let d = step_done places old new asked reads (reply.Wide lines) 2 s refl in
    wide_by old new asked lines (done_sort old new (due old asked) (reply.Wide lines) d) d
