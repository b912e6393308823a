-- A session between the parts of a step, as the code keeps it.
use Rattle.std.specs.Prelude.{ℕ, ◌≡◌, Option, Some, None, Ok, IfSome}
use Rattle.std.proofs.Common.{ControlFlow, Continue, Break}
use Rattle.spec_exact.specs.Narrow.{number_limit}
use Rattle.spec_model.specs.Model.{Model}
use Rattle.spec_simplex.specs.Form.{Form, form_of}
use Rattle.spec_runs.specs.Cold.{ExactSolveEnd}
use Rattle.spec_runs.specs.Solve.{SolveEnd}
use Rattle.spec_solve.specs.Answers.{MayAnswer, IsSolved}
use Rattle.spec_board.specs.Words.{IsWellFormed, shape_of}
use Rattle.spec_board.specs.Reads.{Looked, front}
use Rattle.spec_server.specs.declared.asks.Reply.TheVariants as reply
use Rattle.spec_server.specs.Machine.{ExactAsk, ExactReply, State, edit_refusal}
use Rattle.spec_server.specs.Step as step
use Rattle.spec_server.specs.Halves.{Awaits, Nothing, WhatIsFound, WhatBecameOf}
use Rattle.lp_model.specs.declared.edit.EditError.{EditError}
use Rattle.lp_model.specs.declared.edit.EditError.TheVariants as edits
use Rattle.lp_session.specs.declared.awaited.Pending.{Pending}
use Rattle.lp_session.specs.declared.awaited.Awaited.{Awaited}
use Rattle.lp_session.specs.declared.awaited.Awaited.TheVariants as awaited

-- the session holds a model, and this is its form at 127 bits
abbrev pub IsFormHeld : Option Model → Form → Type 0
IsFormHeld None f = ⊥
IsFormHeld (Some m) f = form_of (Some number_limit) m ≡ Ok f

-- the session holds a model, and a solve of it may end so, within some budget
abbrev pub IsEndOf : Option Model → ExactSolveEnd → Type 0
IsEndOf None end = ⊥
IsEndOf (Some m) end = (budget : ℕ) × MayAnswer m budget end

-- if a look found words, they are well formed and begin with the shape of the form
abbrev pub FitsForm : Form → Looked → Type 0
FitsForm f found = IfSome found (λ place. IsWellFormed place.words × (front place.words ≡ shape_of f))

-- the session holds a model, and a solve of it with what was found may end so, within this budget
abbrev pub IsSolvedBy : Option Model → ℕ → Looked → SolveEnd → Type 0
IsSolvedBy None budget found solved = ⊥
IsSolvedBy (Some m) budget found solved = IsSolved m budget (step.handed_by found) solved

-- the reply to an edit that was refused, or for which memory ran out
abbrev pub reply_unapplied : EditError → ExactReply
reply_unapplied (edits.Fault fault) = edit_refusal fault
reply_unapplied edits.NoMemory = reply.Memory

-- ---- what a session awaits

-- what the code holds of an answer whose basis is to be published, as the definitions have it
abbrev pub pending_of : Pending → step.Pending
pending_of p = record { end = p.end; how = p.how; words = p.words }

-- what the code holds of what a session awaits, as the definitions have it
abbrev pub awaits_of : Awaited → Awaits
awaits_of awaited.Nothing = Nothing
awaits_of (awaited.WhatIsFound form) = WhatIsFound (shape_of form)
awaits_of (awaited.WhatBecameOf pending) = WhatBecameOf (pending_of pending)

-- if a form is kept, it is that of the session's model; if an end is, a solve of that model may end so
abbrev pub AwaitedFits : Option Model → Awaited → Type 0
AwaitedFits model awaited.Nothing = Unit {0}
AwaitedFits model (awaited.WhatIsFound form) = IsFormHeld model form
AwaitedFits model (awaited.WhatBecameOf pending) = IsEndOf model pending.end

-- ---- the parts of a step

-- A session begins a request as the code does: with the reply and the next state; or with a look for the shape of this
-- form, which is its model's, and the state stays.
abbrev pub BeginsSo : State → ExactAsk → ControlFlow ExactReply Form → State → Type 0
BeginsSo old asked (Break replied) new = step.Begins old asked (step.Answers replied new)
BeginsSo old asked (Continue form) new =
    step.Begins old asked (step.Looks (shape_of form)) × (new ≡ old) × IsFormHeld new.model form

-- the solve goes on to publish these well-formed words, which stand with an end that its model may have,
-- and the state stays
pub record PublishesSo (old : State) (found : Looked) (pending : Pending) (new : State) : Type 0 where
  pub works : step.Works old found (step.Publishes (pending_of pending))
  pub formed : IsWellFormed pending.words
  pub kept : new ≡ old
  pub fits : IsEndOf new.model pending.end

-- a solve goes on, with what was found, as the code does: with the reply and the next state, or with words to publish
abbrev pub WorksSo : State → Looked → ControlFlow ExactReply Pending → State → Type 0
WorksSo old found (Break replied) new = step.Works old found (step.Ends replied new)
WorksSo old found (Continue pending) new = PublishesSo old found pending new
