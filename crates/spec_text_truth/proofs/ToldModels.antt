-- The model that a session has, as the lines of its replies say.
use Rattle.std.proofs.Common.{◌≡◌, ℕ, Bool, true, false, cond, List, [], ◌∷◌, map, Option, Some, None, refl, sym, ap, ◌∙◌, subst}
use Rattle.std.proofs.Common.{inl, inr, nat_eq}
use Rattle.std.specs.Prelude.{codes, fold}
use Rattle.std.specs.List.{filter}
use Rattle.spec_model.specs.Model.{Model}
use Rattle.spec_edit.specs.Edited.{ExactEdit}
use Rattle.spec_check.specs.declared.certificate.Known.TheVariants as known
use Rattle.spec_check.specs.declared.certificate.Verdict.TheVariants as verdict
use Rattle.spec_board.specs.Reads.{ExactRead}
use Rattle.spec_text.specs.Words.{same}
use Rattle.spec_server.specs.declared.asks.Ask.TheVariants as ask
use Rattle.spec_server.specs.declared.asks.Reply.TheVariants as reply
use Rattle.spec_server.specs.declared.command.Plain.TheVariants as command
use Rattle.spec_server.specs.Machine.{ExactAsk, ExactReply, State, opening}
use Rattle.spec_server.specs.Output.{reply_text}
use Rattle.spec_server.specs.Step.{Begins, GoesOn, AloneStep}
use Rattle.spec_server.specs.Exchanges.{Exchange, asked_in, AloneRun, of_session}
use Rattle.spec_truth.specs.ModelThen.{after_edit, after_change}
use Rattle.spec_text_truth.specs.TrueOutput.{Told, model_told}
use Rattle.spec_truth.proofs.HeldThen.{step_then}
use Rattle.spec_text_truth.proofs.AskedEffects.{effect_of, asking_of}
use Rattle.spec_text_truth.proofs.ToldReplies.{told_by}

abbrev pub told_of : Exchange → Told
told_of x = told_by (asking_of (asked_in x)) x.reply

-- ---- steps

-- a reply to an edit makes the edit where its text is `OK`, and keeps the session's model where it is not
change_told : (held : Option Model) (e : ExactEdit) (replied : ExactReply) →
    after_change held e replied ≡ cond (same (reply_text replied) (codes "OK")) (after_edit held e) held
unfolding reply_text
change_told held e reply.Done = refl
change_told held e (reply.Loaded rows columns) = refl
change_told held e (reply.Written text) = refl
change_told held e (reply.Known (known.Optimal v)) = refl
change_told held e (reply.Known known.Infeasible) = refl
change_told held e (reply.Known known.Unbounded) = refl
change_told held e (reply.Past p) = refl
change_told held e (reply.Spent budget) = refl
change_told held e (reply.Certified lines) = refl
change_told held e (reply.Found how pivots publication) = refl
change_told held e (reply.Checked (verdict.Yes what)) = refl
change_told held e (reply.Checked (verdict.No n)) = refl
change_told held e (reply.Checked (verdict.Past p)) = refl
change_told held e (reply.Wide lines) = refl
change_told held e reply.Bye = refl
change_told held e reply.Memory = refl
change_told held e (reply.Refused why) = refl

-- after a text that spells a model the session has this model, whatever the reply is
loaded_told : (places : ℕ) (old new : State) (m : Model) (reads : List ExactRead) (replied : ExactReply) →
    AloneStep places old (ask.Loaded m) reads replied new → new.model ≡ Some m
loaded_told places old new m reads replied s = by s.begins
  where
    by : Begins old (ask.Loaded m) s.begun → new.model ≡ Some m
    by (inl e) =
        let g = subst (λ b. GoesOn places old b reads replied new) e s.goes_on in ap (λ (s : State). s.model) g.2
    by (inr e) = let z : false ≡ true = e.0 in cc

-- after QUIT the session has no model
quit_told : (places : ℕ) (old new : State) (reads : List ExactRead) (replied : ExactReply) →
    AloneStep places old (ask.Plain command.Quit) reads replied new → new.model ≡ None
quit_told places old new reads replied s = by s.begins
  where
    by : Begins old (ask.Plain command.Quit) s.begun → new.model ≡ None
    by (inl e) =
        let g = subst (λ b. GoesOn places old b reads replied new) e s.goes_on in ap (λ (s : State). s.model) g.2
    by (inr e) = let z : false ≡ true = e.0 in cc

-- after a step the session has the model that the request's effect makes by the text of the reply
step_told : (places : ℕ) (old new : State) (asked : ExactAsk) (reads : List ExactRead) (replied : ExactReply) →
    AloneStep places old asked reads replied new →
    new.model ≡ effect_of asked old.model (reply_text replied)
step_told places old new (ask.Loaded m) reads replied s = loaded_told places old new m reads replied s
step_told places old new (ask.Plain command.Quit) reads replied s = quit_told places old new reads replied s
step_told places old new (ask.Plain (command.Change e)) reads replied s =
    step_then places old new (ask.Plain (command.Change e)) reads replied s ∙ change_told old.model e replied
step_told places old new (ask.Plain (command.Write form)) reads replied s = step_then places old new _ reads replied s
step_told places old new (ask.Plain command.Solve) reads replied s = step_then places old new _ reads replied s
step_told places old new (ask.Plain command.Cert) reads replied s = step_then places old new _ reads replied s
step_told places old new (ask.Plain command.How) reads replied s = step_then places old new _ reads replied s
step_told places old new (ask.Plain (command.Budget n)) reads replied s = step_then places old new _ reads replied s
step_told places old new (ask.Plain command.Wide) reads replied s = step_then places old new _ reads replied s
step_told places old new (ask.Misspelled why) reads replied s = step_then places old new _ reads replied s
step_told places old new (ask.Checked raw) reads replied s = step_then places old new _ reads replied s
step_told places old new (ask.Unfit line) reads replied s = step_then places old new _ reads replied s
step_told places old new (ask.Bad why) reads replied s = step_then places old new _ reads replied s

-- ---- runs

-- the model behind these, by the one before them
abbrev after_lines : Option Model → List Told → Option Model
after_lines held told = fold (λ held (x : Told). x.asked.effect held x.line) held told

-- after a run the session has the model that the effects make by the lines told of its exchanges
run_told : (places : ℕ) (old new : State) (xs : List Exchange) (held : Option Model) → old.model ≡ held →
    AloneRun places old xs new → new.model ≡ after_lines held (map told_of xs)
run_told places old new [] held is run = ap (λ (s : State). s.model) run ∙ is
run_told places old new (x ∷ xs) held is run =
    run_told places run.0 new xs (effect_of x.ask held (reply_text x.reply))
    (step_told places old run.0 x.ask x.reads x.reply run.1
    ∙ ap (λ h. effect_of x.ask h (reply_text x.reply)) is)
    run.2

-- what is told of one session is told of the exchanges of this session
of_told : (session : ℕ) (xs : List Exchange) →
    filter (λ (x : Told). nat_eq x.asked.session session) (map told_of xs) ≡ map told_of (of_session session xs)
of_told session [] = refl
of_told session (x ∷ xs) = by (nat_eq x.session session) (of_told session xs)
  where
    by : (t : Bool) →
        filter (λ (x : Told). nat_eq x.asked.session session) (map told_of xs) ≡ map told_of (of_session session xs) →
        cond t (told_of x ∷ filter (λ (x : Told). nat_eq x.asked.session session) (map told_of xs))
        (filter (λ (x : Told). nat_eq x.asked.session session) (map told_of xs))
        ≡ map told_of (cond t (x ∷ of_session session xs) (of_session session xs))
    by true e = ap (λ told. told_of x ∷ told) e
    by false e = e

-- after its exchanges of a run a session has the model that is told of it
pub told_then : (places session : ℕ) (xs : List Exchange) (last : State) →
    AloneRun places opening (of_session session xs) last → last.model ≡ model_told session (map told_of xs)
told_then places session xs last run =
    run_told places opening last (of_session session xs) None refl run ∙ ap (after_lines None) (sym (of_told session xs))
