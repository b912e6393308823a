-- The one-session machine: a session that holds its model, its budget and its last answer alone.
use Rattle.std.specs.Prelude.{ℕ, Bool, true, false, Option, Some, None, Ok, Err, List, [], length, All}
use Rattle.spec_exact.specs.Fraction.{ℚ}
use Rattle.spec_exact.specs.Narrow.{number_limit}
use Rattle.spec_model.specs.Model.{Model, Name}
use Rattle.spec_model.specs.Kept.{IsUsualModel}
use Rattle.spec_check.specs.declared.certificate.Certificate.{Certificate}
use Rattle.spec_check.specs.declared.certificate.SettleFault.{SettleFault}
use Rattle.spec_check.specs.declared.certificate.SettleFault.TheVariants as settle
use Rattle.spec_check.specs.Raw.{ExactRaw}
use Rattle.spec_certificate.specs.TextWritten.{certificate_lines}
use Rattle.spec_check.specs.Settle.{Settled, certificate_for}
use Rattle.spec_check.specs.Run.{check_run, verdict_of}
use Rattle.spec_mps.specs.declared.style.Style.{Style}
use Rattle.spec_mps.specs.declared.style.Style.TheVariants as style
use Rattle.spec_mps.specs.Written.{free, fixed, too_wide}
use Rattle.spec_edit.specs.declared.edit.EditFault.{EditFault}
use Rattle.spec_edit.specs.declared.edit.EditFault.TheVariants as edit
use Rattle.spec_edit.specs.Edited.{ExactEdit, OrFault, edited}
use Rattle.spec_edit.specs.Edited as edits
use Rattle.spec_pivot.specs.declared.status.Status.{Status}
use Rattle.spec_check.specs.declared.solve_end.SolveEnd.TheVariants as outcome
use Rattle.spec_runs.specs.Cold.{ExactSolveEnd}
use Rattle.spec_server.specs.declared.answer.LastAnswer.{LastAnswer}
use Rattle.spec_server.specs.declared.asks.Ask.{Ask}
use Rattle.spec_server.specs.declared.asks.Ask.TheVariants as ask
use Rattle.spec_server.specs.declared.asks.Asked.{Asked}
use Rattle.spec_server.specs.declared.asks.Reply.{Reply}
use Rattle.spec_server.specs.declared.asks.Reply.TheVariants as reply
use Rattle.spec_server.specs.declared.asks.Refusal.TheVariants as refusal
use Rattle.spec_server.specs.declared.command.Plain.{Plain}
use Rattle.spec_server.specs.declared.command.Plain.TheVariants as command

-- a request with models, certificates and edits of exact numbers
abbrev pub ExactAsk : Type 0
ExactAsk = Ask Model ExactRaw ExactEdit

-- a reply with exact numbers
abbrev pub ExactReply : Type 0
ExactReply = Reply Name ℚ (List ℕ) (List (List ℕ))

-- the last answer to a solve, with exact numbers
abbrev pub ExactLastAnswer : Type 0
ExactLastAnswer = LastAnswer ℚ (List ℚ) (List Status)

-- if the command is an edit, its numbers and bounds may be kept; of other commands nothing is asked
abbrev pub IsKeptPlain : Plain ExactEdit → Type 0
IsKeptPlain (command.Change e) = edits.IsKeptEdit e
IsKeptPlain asked = Unit {0}

-- if the request loads a model, this is a usual one; if it edits, the edit's numbers and bounds may be kept; of others
-- nothing is asked
abbrev pub IsKeptAsk : ExactAsk → Type 0
IsKeptAsk (ask.Loaded m) = IsUsualModel m
IsKeptAsk (ask.Plain asked) = IsKeptPlain asked
IsKeptAsk asked = Unit {0}

-- each request that loads a model loads a usual one, and each edit has numbers and bounds that may be kept
abbrev pub AreKept : List (Asked ExactAsk) → Type 0
AreKept asks = All (λ a. IsKeptAsk a.ask) asks

-- what a session holds: a model, a budget and the last answer
pub record State : Type 0 where
  pub model : Option Model
  pub budget : ℕ
  pub last : Option ExactLastAnswer

-- the budget with which a session begins: 10,000 pivots and flips
abbrev pub opening_budget : ℕ
opening_budget = 10000

-- the state of a session that was asked nothing yet: no model, no answer, and the opening budget
abbrev pub opening : State
opening = record { model = None; budget = opening_budget; last = None }

-- ---- replies

-- whether a reply says that memory ran out
abbrev pub is_memory : ExactReply → Bool
is_memory reply.Memory = true
is_memory replied = false

-- the refusal of a certificate with a name that the model does not have, or that stands twice
abbrev pub settle_reply : SettleFault Name → ExactReply
settle_reply (settle.UnknownName name) = reply.Refused (refusal.Name name)
settle_reply (settle.Repeated name) = reply.Refused (refusal.Repeated name)

-- the reply to a certificate whose names were looked up in the model: the checker's verdict;
-- or a refusal where a name is unknown or stands twice
abbrev pub verdict_on : Model → Settled (Certificate (List ℚ)) → ExactReply
verdict_on m (Ok certificate) = reply.Checked (verdict_of (check_run (Some number_limit) m certificate))
verdict_on m (Err fault) = settle_reply fault

-- the reply to a certificate: the checker's verdict, by the model that is held, or a refusal where a name is unknown or
-- stands twice, or no model is held
abbrev pub check_reply : Option Model → ExactRaw → ExactReply
check_reply None raw = reply.Refused refusal.NoModel
check_reply (Some m) raw = verdict_on m (certificate_for m raw)

-- the reply to `WRITE FIXED`: the text of the model; where an item is too wide for fixed form, a refusal that names it
abbrev pub fixed_reply : Model → Option (List ℕ) → ExactReply
fixed_reply m None = reply.Written (fixed m)
fixed_reply m (Some item) = reply.Refused (refusal.FixedWide item)

-- the reply with a model's text in a style; in fixed form a refusal, where an item is too wide
abbrev pub text_reply : Model → Style → ExactReply
text_reply m style.Free = reply.Written (free m)
text_reply m style.Fixed = fixed_reply m (too_wide m)

-- the reply to `WRITE`: the model's text in the given form; or a refusal, where there is no model or an item is too
-- wide for fixed form
abbrev pub write_reply : Option Model → Style → ExactReply
write_reply None form = reply.Refused refusal.NoModel
write_reply (Some m) form = text_reply m form

-- the reply to a solve within a budget that ended so: what is known, the operation past the limit, or the spent budget
abbrev pub answer_of : ℕ → ExactSolveEnd → ExactReply
answer_of budget (outcome.Ended known certificate basis pivots) = reply.Known known
answer_of budget (outcome.Past p) = reply.Past p
answer_of budget outcome.Spent = reply.Spent budget

-- the lines of the certificate of a solve that ended so; none where it ended without an answer
abbrev pub lines_of_solved : Model → ExactSolveEnd → List (List ℕ)
lines_of_solved m (outcome.Ended known certificate basis pivots) = certificate_lines m certificate
lines_of_solved m (outcome.Past p) = []
lines_of_solved m outcome.Spent = []

-- how many pivots and flips a solve took that ended so; none where it ended without an answer
abbrev pub pivots_of_solved : ExactSolveEnd → Option ℕ
pivots_of_solved (outcome.Ended known certificate basis pivots) = Some pivots
pivots_of_solved (outcome.Past p) = None
pivots_of_solved outcome.Spent = None

-- the reply to `CERT`: the lines of the last answer's certificate, no lines where that solve ended without an answer;
-- a refusal where there is no model or no last answer
abbrev pub cert_reply : Option Model → Option ExactLastAnswer → ExactReply
cert_reply (Some m) (Some last) = reply.Certified (lines_of_solved m last.solved)
cert_reply model last = reply.Refused refusal.NoAnswer

-- the reply to `HOW`: how the last answer was found, in how many pivots and flips (none where the solve ended without
-- an answer), and what became of its basis; a refusal where there is no last answer
abbrev pub how_reply : Option ExactLastAnswer → ExactReply
how_reply None = reply.Refused refusal.NoAnswer
how_reply (Some last) = reply.Found last.how (pivots_of_solved last.solved) last.publication

-- ---- what is due to an ask

-- what a session does for a request, if memory is enough: it replies and is in the next state, or solves this model
-- within its budget, or solves this model exactly
pub data Due : Type 0 where
  Replies : (replied : ExactReply) → (next : State) → Due
  Solves : (model : Model) → Due
  SolvesWide : (model : Model) → Due

-- what a session does for `SOLVE`: it solves its model, or replies that there is none
abbrev pub solve_due : State → Option Model → Due
solve_due state None = Replies (reply.Refused refusal.NoModel) state
solve_due state (Some m) = Solves m

-- what a session does for `WIDE`: it solves its model exactly, or replies that there is none
abbrev pub wide_due : State → Option Model → Due
wide_due state None = Replies (reply.Refused refusal.NoModel) state
wide_due state (Some m) = SolvesWide m

-- the reply that refuses an edit, by its fault
abbrev pub edit_refusal : EditFault Name → ExactReply
edit_refusal (edit.UnknownName name) = reply.Refused (refusal.Name name)
edit_refusal (edit.Taken name) = reply.Refused (refusal.Taken name)
edit_refusal (edit.Limit which count) = reply.Refused (refusal.Limit which count)
edit_refusal edit.BadName = reply.Refused refusal.BadName
edit_refusal (edit.Repeated name) = reply.Refused (refusal.Repeated name)
edit_refusal (edit.FreeRow name) = reply.Refused (refusal.FreeRow name)

-- what a session does after an edit: with the edited model it replies that it is done and forgets the last answer; a
-- fault it replies, and keeps its state
abbrev pub edit_due : State → OrFault Model → Due
edit_due state (Ok m) = Replies reply.Done (record state { model = Some m; last = None })
edit_due state (Err why) = Replies (edit_refusal why) state

-- what a session does for an edit: it edits its model, or replies why this edit is refused; without a model it replies
-- that there is none
abbrev pub change_due : State → Option Model → ExactEdit → Due
change_due state None e = Replies (reply.Refused refusal.NoModel) state
change_due state (Some m) e = edit_due state (edited m e)

-- What a session does for a command of one line. `WRITE`, `CERT` and `HOW` are replied to, and change nothing. `BUDGET`
-- sets the budget, and `QUIT` leads back to the opening state. A solve or an edit is refused without a model.
abbrev pub plain_due : State → Plain ExactEdit → Due
plain_due state (command.Write form) = Replies (write_reply state.model form) state
plain_due state command.Solve = solve_due state state.model
plain_due state command.Cert = Replies (cert_reply state.model state.last) state
plain_due state command.How = Replies (how_reply state.last) state
plain_due state (command.Budget n) = Replies reply.Done (record state { budget = n })
plain_due state command.Wide = wide_due state state.model
plain_due state command.Quit = Replies reply.Bye opening
plain_due state (command.Change e) = change_due state state.model e

-- What a session in this state does for a request. A command of one line is done or refused. A loaded model is held
-- from now on, and the last answer forgotten. A certificate is checked, or refused. Each faulty request is refused.
abbrev pub due : State → ExactAsk → Due
due state (ask.Plain asked) = plain_due state asked
due state (ask.Loaded m) =
    Replies (reply.Loaded (length m.rows) (length m.columns)) (record state { model = Some m; last = None })
due state (ask.Misspelled fault) = Replies (reply.Refused (refusal.Misspelled fault)) state
due state (ask.Checked raw) = Replies (check_reply state.model raw) state
due state (ask.Unfit line) = Replies (reply.Refused (refusal.Unfit line)) state
due state (ask.Bad fault) = Replies (reply.Refused (refusal.Bad fault)) state

-- ---- memory

-- whether memory may run out for a command: for `WRITE`, `SOLVE`, `WIDE`, `CERT`, and for edits that may add something
abbrev pub plain_takes_memory : Plain ExactEdit → Bool
plain_takes_memory (command.Write form) = true
plain_takes_memory command.Solve = true
plain_takes_memory command.Wide = true
plain_takes_memory command.Cert = true
plain_takes_memory (command.Change e) = edits.takes_memory e
plain_takes_memory asked = false

-- whether a request may be answered with `MEMORY`: a command for which memory may run out, or a certificate
abbrev pub takes_memory : ExactAsk → Bool
takes_memory (ask.Plain asked) = plain_takes_memory asked
takes_memory (ask.Checked raw) = true
takes_memory asked = false
