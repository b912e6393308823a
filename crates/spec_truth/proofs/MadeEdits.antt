-- An edit that is answered OK is made.
use Rattle.std.proofs.Common.{◌≡◌, ℕ, List, [], ◌∷◌, ◌++◌, Option, Some, None, Ok, Err, refl, sym, ◌∙◌, ap, subst}
use Rattle.std.proofs.Common.{◌⊎◌, inl, inr}
use Rattle.spec_model.specs.Model.{Model, Name}
use Rattle.spec_edit.specs.declared.edit.EditFault.{EditFault}
use Rattle.spec_edit.specs.declared.edit.EditFault.TheVariants as fault
use Rattle.spec_edit.specs.Edited.{ExactEdit, OrFault, edited}
use Rattle.spec_server.specs.declared.asks.Ask.TheVariants as ask
use Rattle.spec_server.specs.declared.asks.Reply.TheVariants as reply
use Rattle.spec_server.specs.declared.asks.Refusal.TheVariants as refusal
use Rattle.spec_server.specs.declared.command.Plain.TheVariants as command
use Rattle.spec_board.specs.Reads.{ExactRead}
use Rattle.spec_server.specs.Machine.{ExactAsk, ExactReply, State, edit_due, change_due, edit_refusal}
use Rattle.spec_server.specs.Step.{AloneStep}
use Rattle.spec_server.specs.Exchanges.{Exchange, of_session, RunAlone}
use Rattle.spec_server.proofs.Simply.{Does, WantsMemory, step_simply}
use Rattle.spec_server.proofs.RunLemmas.{of_session-append}
use Rattle.spec_truth.specs.ModelThen.{made, after_exchange, after_exchanges, model_then}
use Rattle.spec_truth.proofs.TrueRuns.{steps_then, own_first}

-- ---- the edit

-- a model is held, and the edit e may be made of it: the edited model is `after`
record IsMade (held : Option Model) (e : ExactEdit) : Type 0 where
  before : Model
  is_held : held ≡ Some before
  after : Model
  is_edited : edited before e ≡ Ok after

-- the reply `OK` refuses no edit
not_refused : (why : EditFault Name) → reply.Done ≡ edit_refusal why → ⊥
not_refused (fault.UnknownName name) h = cc
not_refused (fault.Taken name) h = cc
not_refused (fault.Limit which count) h = cc
not_refused fault.BadName h = cc
not_refused (fault.Repeated name) h = cc
not_refused (fault.FreeRow name) h = cc

-- where an edit of a model is answered OK, the edit is made
edit_made : (old new : State) (m : Model) (e : ExactEdit) (r : OrFault Model) → edited m e ≡ r →
    Does old (edit_due old r) reply.Done new → IsMade (Some m) e
edit_made old new m e (Ok n) is d = record { before = m; is_held = refl; after = n; is_edited = is }
edit_made old new m e (Err why) is d = absurd (not_refused why d.0)

-- where an edit is answered OK, a model is held and the edit is made of it
change_made : (old new : State) (held : Option Model) (e : ExactEdit) →
    Does old (change_due old held e) reply.Done new → IsMade held e
change_made old new None e d = let z : ◌≡◌ {A = ExactReply} reply.Done (reply.Refused refusal.NoModel) = d.0 in cc
change_made old new (Some m) e d = edit_made old new m e (edited m e) refl d

-- a step that answers OK to an edit makes the edit of the model that is held
step_made : (places : ℕ) (old new : State) (e : ExactEdit) (reads : List ExactRead) →
    AloneStep places old (ask.Plain (command.Change e)) reads reply.Done new → IsMade old.model e
step_made places old new e reads s = by (step_simply places old reads reply.Done new (ask.Plain (command.Change e)) s)
  where
    by : Does old (change_due old old.model e) reply.Done new ⊎ WantsMemory old reply.Done new → IsMade old.model e
    by (inl d) = change_made old new old.model e d
    by (inr w) = let z : ◌≡◌ {A = ExactReply} reply.Done reply.Memory = w.memory in cc

-- ---- the model after one more exchange

-- one exchange more leaves the model that its request and reply say, from the one that the others leave
after_more : (held : Option Model) (xs : List Exchange) (x : Exchange) →
    after_exchanges held (xs ++ x ∷ []) ≡ after_exchange (after_exchanges held xs) x.ask x.reply
after_more held [] x = refl
after_more held (y ∷ xs) x = after_more (after_exchange held y.ask y.reply) xs x

-- the model of a session behind one exchange of its own more is what this exchange leaves of the one before
then_after : (before : List Exchange) (x : Exchange) →
    model_then x.session (before ++ x ∷ []) ≡ after_exchange (model_then x.session before) x.ask x.reply
then_after before x =
    ap (after_exchanges None)
    (of_session-append x.session before (x ∷ []) ∙ ap (λ ys. of_session x.session before ++ ys) (own_first x []))
    ∙ after_more None (of_session x.session before) x

-- ---- in a run

-- an edit that is answered OK in a run is made of the model held then, and its result is held from then on
pub edit_then : (places : ℕ) (before behind : List Exchange) (x : Exchange) (e : ExactEdit) →
    RunAlone places (before ++ x ∷ behind) →
    x.ask ≡ ask.Plain (command.Change e) → x.reply ≡ reply.Done →
    (m : Model) × (n : Model) × (model_then x.session before ≡ Some m) × (edited m e ≡ Ok n)
    × (model_then x.session (before ++ x ∷ []) ≡ Some n)
edit_then places before behind x e fits asked replied =
    let s = steps_then places before behind x fits in
    let step : AloneStep places s.old (ask.Plain (command.Change e)) x.reads reply.Done s.new =
    subst (λ (r : ExactReply). AloneStep places s.old (ask.Plain (command.Change e)) x.reads r s.new) replied
    (subst (λ (a : ExactAsk). AloneStep places s.old a x.reads x.reply s.new) asked s.step) in
    let made_then = step_made places s.old s.new e x.reads step in
    let held : model_then x.session before ≡ Some made_then.before = sym s.held ∙ made_then.is_held in (
      made_then.before,
      made_then.after,
      held,
      made_then.is_edited,
      then_after before x ∙ ap (λ a. after_exchange (model_then x.session before) a x.reply) asked
          ∙ ap (λ r. after_exchange (model_then x.session before) (ask.Plain (command.Change e)) r) replied
          ∙ ap (λ h. after_exchange h (ask.Plain (command.Change e)) reply.Done) held ∙ ap made made_then.is_edited,
    )
