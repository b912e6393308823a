-- The machine's state holds the model that the asks and replies of its run say.
--
-- `step_then`: a step leaves the model that its request and reply say that the session holds from then on.
-- `holds_then`: after a run a session holds the model that its requests and replies say.
use Rattle.std.proofs.Common.{◌≡◌, ℕ, List, [], ◌∷◌, Option, Some, None, Ok, Err, refl, sym, ◌∙◌, ap, ◌⊎◌, inl, inr}
use Rattle.spec_model.specs.Model.{Model, Name}
use Rattle.spec_edit.specs.declared.edit.EditFault.{EditFault}
use Rattle.spec_edit.specs.declared.edit.EditFault.TheVariants as fault
use Rattle.spec_edit.specs.Edited.{ExactEdit, OrFault, edited}
use Rattle.spec_server.specs.declared.asks.Ask.TheVariants as ask
use Rattle.spec_server.specs.declared.asks.Reply.TheVariants as reply
use Rattle.spec_server.specs.declared.command.Plain.TheVariants as command
use Rattle.spec_board.specs.Reads.{ExactRead}
use Rattle.spec_server.specs.Machine.{ExactAsk, ExactReply, State, opening, solve_due, wide_due, edit_refusal, edit_due}
use Rattle.spec_server.specs.Machine.{change_due, due}
use Rattle.spec_server.specs.Step.{AloneStep}
use Rattle.spec_server.specs.Exchanges.{Exchange, AloneRun, of_session}
use Rattle.spec_server.proofs.Simply.{Does, WantsMemory, step_simply}
use Rattle.spec_truth.specs.ModelThen.{made, after_change, after_exchange, after_exchanges, model_then}

-- ---- edits

-- an edit that is refused leaves the model that the session held
refused_edit : (held : Option Model) (e : ExactEdit) (why : EditFault Name) →
    after_change held e (edit_refusal why) ≡ held
refused_edit held e (fault.UnknownName name) = refl
refused_edit held e (fault.Taken name) = refl
refused_edit held e (fault.Limit which count) = refl
refused_edit held e fault.BadName = refl
refused_edit held e (fault.Repeated name) = refl
refused_edit held e (fault.FreeRow name) = refl

-- where a model is held, an edit leaves the model that the edit and its reply say
edited_then : (old new : State) (m : Model) (e : ExactEdit) (replied : ExactReply) (r : OrFault Model) →
    old.model ≡ Some m → edited m e ≡ r →
    Does old (edit_due old r) replied new → new.model ≡ after_change (Some m) e replied
edited_then old new m e replied (Ok n) held is d =
    ap (λ s. s.model) d.1 ∙ sym (ap (after_change (Some m) e) d.0 ∙ ap made is)
edited_then old new m e replied (Err why) held is d =
    ap (λ s. s.model) d.1 ∙ held ∙ sym (ap (after_change (Some m) e) d.0 ∙ refused_edit (Some m) e why)

-- with a model or without one, an edit leaves the model that the edit and its reply say
change_then : (old new : State) (held : Option Model) (e : ExactEdit) (replied : ExactReply) → old.model ≡ held →
    Does old (change_due old held e) replied new → new.model ≡ after_change held e replied
change_then old new None e replied is d = ap (λ s. s.model) d.1 ∙ is ∙ sym (ap (after_change None e) d.0)
change_then old new (Some m) e replied is d = edited_then old new m e replied (edited m e) is refl d

-- a solve leaves the model that the session held
solve_then : (old new : State) (held : Option Model) (replied : ExactReply) →
    Does old (solve_due old held) replied new → new.model ≡ old.model
solve_then old new None replied d = ap (λ s. s.model) d.1
solve_then old new (Some m) replied d = ap (λ s. s.model) d.kept

-- an exact solve leaves the model that the session held
wide_then : (old new : State) (held : Option Model) (replied : ExactReply) →
    Does old (wide_due old held) replied new → new.model ≡ old.model
wide_then old new None replied d = ap (λ s. s.model) d.1
wide_then old new (Some m) replied d = ap (λ s. s.model) d.stays

-- ---- what is due to an ask

-- what is due to a request leaves the model that the request and its reply say
due_then : (old new : State) (asked : ExactAsk) (replied : ExactReply) → Does old (due old asked) replied new →
    new.model ≡ after_exchange old.model asked replied
due_then old new (ask.Plain command.Solve) replied d = solve_then old new old.model replied d
due_then old new (ask.Plain command.Wide) replied d = wide_then old new old.model replied d
due_then old new (ask.Plain command.Quit) replied d =
    ap (λ s. s.model) d.1 ∙ sym (ap (after_exchange old.model (ask.Plain command.Quit)) d.0)
due_then old new (ask.Plain (command.Change e)) replied d = change_then old new old.model e replied refl d
due_then old new (ask.Loaded m) replied d =
    ap (λ s. s.model) d.1 ∙ sym (ap (after_exchange old.model (ask.Loaded m)) d.0)
due_then old new asked replied d = ap (λ s. s.model) d.1

-- a request that is answered `MEMORY` leaves the model that the session held
memory_then : (held : Option Model) (asked : ExactAsk) → after_exchange held asked reply.Memory ≡ held
memory_then held (ask.Plain (command.Change e)) = refl
memory_then held (ask.Plain command.Quit) = refl
memory_then held (ask.Loaded m) = refl
memory_then held asked = refl

pub step_then : (places : ℕ) (old new : State) (asked : ExactAsk) (reads : List ExactRead) (replied : ExactReply) →
    AloneStep places old asked reads replied new → new.model ≡ after_exchange old.model asked replied
step_then places old new asked reads replied s = by (step_simply places old reads replied new asked s)
  where
    by : Does old (due old asked) replied new ⊎ WantsMemory old replied new →
        new.model ≡ after_exchange old.model asked replied
    by (inl d) = due_then old new asked replied d
    by (inr w) =
        ap (λ s. s.model) w.stays ∙ sym (ap (after_exchange old.model asked) w.memory ∙ memory_then old.model asked)

-- ---- runs

-- a run leaves the model that its requests and replies say, from the one that was held before it
run_then : (places : ℕ) (old new : State) (xs : List Exchange) (held : Option Model) → old.model ≡ held →
    AloneRun places old xs new → new.model ≡ after_exchanges held xs
run_then places old new [] held is run = ap (λ s. s.model) run ∙ is
run_then places old new (x ∷ xs) held is run =
    run_then places run.0 new xs (after_exchange held x.ask x.reply)
    (step_then places old run.0 x.ask x.reads x.reply run.1 ∙ ap (λ h. after_exchange h x.ask x.reply) is)
    run.2

pub holds_then : (places session : ℕ) (xs : List Exchange) (last : State) →
    AloneRun places opening (of_session session xs) last → last.model ≡ model_then session xs
holds_then places session xs last run = run_then places opening last (of_session session xs) None refl run
