-- Steps keep what holds of the last answer.
use Rattle.std.proofs.Common.{◌≡◌, ℕ, List, Option, Some, None, Ok, Err, refl, sym, subst, ◌⊎◌, inl, inr}
use Rattle.spec_model.specs.Model.{Model}
use Rattle.spec_edit.specs.Edited.{ExactEdit, OrFault, edited}
use Rattle.spec_board.specs.Reads.{ExactRead}
use Rattle.spec_server.specs.declared.asks.Ask.TheVariants as ask
use Rattle.spec_server.specs.declared.command.Plain.TheVariants as command
use Rattle.spec_server.specs.Machine.{ExactAsk, ExactReply, State, solve_due, wide_due, edit_due, change_due, due}
use Rattle.spec_server.specs.Step.{with_answer, AloneStep}
use Rattle.spec_server.specs.LastFits.{LastFits}
use Rattle.spec_server.proofs.Simply.{Does, WantsMemory, step_simply}

-- the last answer of a state is one that its model may have, or it has none
abbrev Fits : State → Type 0
Fits state = LastFits state.model state.last

-- where the last answer fits the model that is held, it still does after a solve
solve_fits : (old new : State) (replied : ExactReply) (held : Option Model) → old.model ≡ held → Fits old →
    Does old (solve_due old held) replied new → Fits new
solve_fits old new replied None e fits h = subst Fits (sym h.1) fits
solve_fits old new replied (Some m) e fits h =
    let kept : State = with_answer old h.end h.how h.publication in
    let allowed : LastFits (Some m) kept.last = (old.budget, h.may_answer) in
    subst Fits (sym h.kept) (subst (λ (model : Option Model). LastFits model kept.last) (sym e) allowed)

-- where the last answer fits the model that is held, it still does after a wide solve
wide_fits : (old new : State) (replied : ExactReply) (held : Option Model) → Fits old →
    Does old (wide_due old held) replied new → Fits new
wide_fits old new replied None fits h = subst Fits (sym h.1) fits
wide_fits old new replied (Some m) fits h = subst Fits (sym h.stays) fits

-- where the last answer fits the model that is held, it still does after an edit, which is made or refused
edit_fits : (old new : State) (replied : ExactReply) (r : OrFault Model) → Fits old →
    Does old (edit_due old r) replied new → Fits new
edit_fits old new replied (Ok m) fits h = subst Fits (sym h.1) tt
edit_fits old new replied (Err why) fits h = subst Fits (sym h.1) fits

-- where the last answer fits the model that is held, it still does after an edit, with a model or without
change_fits : (old new : State) (replied : ExactReply) (held : Option Model) (e : ExactEdit) → Fits old →
    Does old (change_due old held e) replied new → Fits new
change_fits old new replied None e fits h = subst Fits (sym h.1) fits
change_fits old new replied (Some m) e fits h = edit_fits old new replied (edited m e) fits h

-- where the last answer fits the model that is held, it still does after what the session does for a request
does_fit : (old new : State) (asked : ExactAsk) (replied : ExactReply) → Fits old →
    Does old (due old asked) replied new → Fits new
does_fit old new (ask.Plain (command.Write form)) replied fits h = subst Fits (sym h.1) fits
does_fit old new (ask.Plain command.Solve) replied fits h = solve_fits old new replied old.model refl fits h
does_fit old new (ask.Plain command.Cert) replied fits h = subst Fits (sym h.1) fits
does_fit old new (ask.Plain command.How) replied fits h = subst Fits (sym h.1) fits
does_fit old new (ask.Plain (command.Budget n)) replied fits h = subst Fits (sym h.1) fits
does_fit old new (ask.Plain command.Wide) replied fits h = wide_fits old new replied old.model fits h
does_fit old new (ask.Plain command.Quit) replied fits h = subst Fits (sym h.1) tt
does_fit old new (ask.Plain (command.Change e)) replied fits h = change_fits old new replied old.model e fits h
does_fit old new (ask.Loaded m) replied fits h = subst Fits (sym h.1) tt
does_fit old new (ask.Misspelled fault) replied fits h = subst Fits (sym h.1) fits
does_fit old new (ask.Checked raw) replied fits h = subst Fits (sym h.1) fits
does_fit old new (ask.Unfit line) replied fits h = subst Fits (sym h.1) fits
does_fit old new (ask.Bad fault) replied fits h = subst Fits (sym h.1) fits

-- where the last answer fits the model that is held, it does so after each step
pub step_fits : (places : ℕ) (old new : State) (asked : ExactAsk) (reads : List ExactRead) (replied : ExactReply) →
    AloneStep places old asked reads replied new → LastFits old.model old.last → LastFits new.model new.last
step_fits places old new asked reads replied s fits = by (step_simply places old reads replied new asked s)
  where
    by : Does old (due old asked) replied new ⊎ WantsMemory old replied new → Fits new
    by (inl h) = does_fit old new asked replied fits h
    by (inr h) = subst Fits (sym h.stays) fits
