-- What lines ask of the models of sessions is what their asks do to them.
use Rattle.std.proofs.Common.{◌≡◌, ℕ, Bool, true, false, cond, Option, Some, None, List, [], ◌∷◌, ◌++◌, map, refl, sym, ap, ◌∙◌}
use Rattle.std.specs.Prelude.{codes, option_map, unwrap_or}
use Rattle.std.proofs.lemmas.List.{map-append}
use Rattle.spec_text.specs.declared.line.Line.{Line}
use Rattle.spec_text.specs.Words.{same}
use Rattle.spec_model.specs.Model.{Model}
use Rattle.spec_edit.specs.Edited.{ExactEdit}
use Rattle.spec_model.specs.Kept.{usual_limits}
use Rattle.spec_mps.specs.Reader.{start}
use Rattle.spec_mps.specs.Steps.{Verdict, Spelled, Refused, judge}
use Rattle.spec_certificate.specs.NarrowText as certificate
use Rattle.spec_server.specs.declared.addressing.Addressing.{Addressing}
use Rattle.spec_server.specs.declared.asks.Ask.TheVariants as ask
use Rattle.spec_server.specs.declared.asks.Asked.{Asked}
use Rattle.spec_server.specs.declared.command.Command.TheVariants as commands
use Rattle.spec_server.specs.declared.command.Plain.TheVariants as command
use Rattle.spec_server.specs.Addressing.{addressed_in}
use Rattle.spec_server.specs.Command.{ExactCommand}
use Rattle.spec_server.specs.Machine.{ExactAsk}
use Rattle.spec_server.specs.Script.{Pending, Between, Text, Certificate, ends_text, ends_certificate, ask_of_verdict}
use Rattle.spec_server.specs.Script.{ask_of_judgement, pending_after_line, asks_of_command, asks_by, asks_of_line, asks_from}
use Rattle.spec_truth.specs.ModelThen.{after_edit}
use Rattle.spec_text_truth.specs.TrueOutput.{Effect, Asking, effects_of, asked_of, effect_of_text}
use Rattle.spec_text_truth.specs.TrueOutput.{asked_in_line, asked_from}

abbrev pub loads : Model → Effect
loads m held line = Some m

abbrev pub edits : ExactEdit → Effect
edits e held line = cond (same line (codes "OK")) (after_edit held e) held

abbrev pub drops : Effect
drops held line = None

abbrev pub keeps : Effect
keeps held line = held

-- what an ask does to its session's model
abbrev pub effect_of : ExactAsk → Effect
effect_of (ask.Plain (command.Change e)) = edits e
effect_of (ask.Plain command.Quit) = drops
effect_of (ask.Loaded m) = loads m
effect_of other = keeps

abbrev pub asking_of : Asked ExactAsk → Asking
asking_of asked = record { session = asked.session; effect = effect_of asked.ask }

-- the effects of a command are those of the requests that the command makes
command_effects : (session : ℕ) (c : ExactCommand) →
    asked_of session (effects_of c) ≡ map asking_of (asks_of_command session c)
command_effects session (commands.Load form) = refl
command_effects session commands.Check = refl
command_effects session (commands.Plain (command.Write form)) = refl
command_effects session (commands.Plain command.Solve) = refl
command_effects session (commands.Plain command.Cert) = refl
command_effects session (commands.Plain command.How) = refl
command_effects session (commands.Plain (command.Budget n)) = refl
command_effects session (commands.Plain command.Wide) = refl
command_effects session (commands.Plain (command.Change e)) = refl
command_effects session (commands.Plain command.Quit) = refl
command_effects session (commands.Bad fault) = refl

-- the effects of an addressed command, or of none, are those of the requests that the command makes
by_effects : (o : Option (Asked ExactCommand)) →
    unwrap_or (option_map (λ a. asked_of a.session (effects_of a.ask)) o) [] ≡ map asking_of (asks_by o)
by_effects None = refl
by_effects (Some addressed) = command_effects addressed.session addressed.ask

-- the effect of a text with a verdict is that of the request which the verdict makes
verdict_effect : (v : Verdict) → effect_of_text v ≡ effect_of (ask_of_verdict v)
verdict_effect (Spelled m) = refl
verdict_effect (Refused n fault) = refl

-- the request that a judged certificate makes keeps its session's model
judgement_effect : (j : certificate.Judgement) → keeps ≡ effect_of (ask_of_judgement j)
judgement_effect (certificate.Spelled raw) = refl
judgement_effect (certificate.Refused n) = refl

-- where an effect is that of a request, both are asked, or neither is, as a line ends its body or not
if_asked : (t : Bool) (session : ℕ) (effect : Effect) (asked : ExactAsk) → effect ≡ effect_of asked →
    asked_of session (cond t (effect ∷ []) [])
    ≡ map asking_of (cond {A = List (Asked ExactAsk)} t (record { session = session; ask = asked } ∷ []) [])
if_asked true session effect asked e = ap (λ (f : Effect). asked_of session (f ∷ [])) e
if_asked false session effect asked e = refl

-- the effects of a line on models are those of the requests that the line completes
line_effects : (addressing : Addressing) (p : Pending) (next : Line (List ℕ)) →
    asked_in_line addressing p next ≡ map asking_of (asks_of_line addressing p next)
line_effects addressing Between next = by_effects (addressed_in addressing next)
line_effects addressing (Text session form body) next =
    if_asked (ends_text next) session _ _ (verdict_effect (judge usual_limits form start 1 (body ++ next ∷ [])))
line_effects addressing (Certificate session body) next =
    if_asked (ends_certificate next) session keeps _ (judgement_effect (certificate.judge None 1 (body ++ next ∷ [])))

-- the effects of lines on models, from an unfinished text or certificate on, are those of the requests that they
-- complete
pub asked_from-is : (addressing : Addressing) (p : Pending) (lines : List (Line (List ℕ))) →
    asked_from addressing p lines ≡ map asking_of (asks_from addressing p lines)
asked_from-is addressing p [] = refl
asked_from-is addressing p (next ∷ lines) =
    let after : Pending = pending_after_line addressing p next in
    ap (λ (first : List Asking). first ++ asked_from addressing after lines) (line_effects addressing p next)
    ∙ ap (λ (rest : List Asking). map asking_of (asks_of_line addressing p next) ++ rest)
    (asked_from-is addressing after lines)
    ∙ sym (map-append asking_of (asks_of_line addressing p next) (asks_from addressing after lines))
