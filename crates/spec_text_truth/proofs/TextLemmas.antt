-- What is said of the lines of a text is what the reader of texts judges them to be.
--
-- `said_spelled`: where a model is said of lines, the lines spell it.
-- `said_refused`: where a fault is said of lines, the reader refuses them at this line for it.
-- `said_cut`: where nothing is said of lines, the reader refuses them as cut off.
-- `spelled_said`: where lines spell a model, it is said of them.
use Rattle.std.proofs.Common.{◌≡◌, ℕ, ◌+◌, List, [], ◌∷◌, Option, Some, None, Ok, Err, refl, sym, ◌∙◌, subst}
use Rattle.spec_text.specs.declared.line.Line.{Line}
use Rattle.spec_model.specs.declared.parts.SizeLimits.{SizeLimits}
use Rattle.spec_model.specs.Model.{Model}
use Rattle.spec_mps.specs.declared.fault.Code.TheVariants as code
use Rattle.spec_mps.specs.declared.fault.MpsFault.{MpsFault}
use Rattle.spec_mps.specs.declared.style.Style.{Style}
use Rattle.spec_mps.specs.Reader.{State, start}
use Rattle.spec_mps.specs.Steps as text
use Rattle.spec_server.specs.Said.{follow, said_by}
use Rattle.spec_server.specs.TextSaid.{TextSaid, behind_line, text_step, text_said_within}

-- where more lines are needed, the text is cut off
abbrev Agrees : Option TextSaid → text.Verdict → Type 0
Agrees None verdict = (n : ℕ) × (verdict ≡ text.Refused n code.Cut)
Agrees (Some (Ok m)) verdict = verdict ≡ text.Spelled m
Agrees (Some (Err fault)) verdict = verdict ≡ text.Refused fault.line fault.code

-- the result of the lines of a text, from a state on, agrees with the verdict of the reader of texts
agree : (limits : SizeLimits) (style : Style) (s : State) (n : ℕ) (lines : List (Line (List ℕ))) →
    Agrees (said_by (text_step limits style) (record { state = s; lines = n }) lines) (text.judge limits
    style s (n + 1) lines)
unfolding text_step
agree limits style s n [] = (n + 1, refl)
agree limits style s n (line ∷ lines) = by (text.step limits style s line) (λ t. agree limits style t (n + 1) lines)
  where
    by : (o : text.Outcome)
        → ((t : State) → Agrees (said_by (text_step limits style) (record { state = t; lines = n + 1 }) lines)
        (text.judge limits style t (n + 1 + 1) lines))
        → Agrees (follow (behind_line (n + 1) o) (λ next. said_by (text_step limits style) next lines))
        (text.settled (n + 1) (λ t. text.judge limits style t (n + 1 + 1) lines) o)
    by (Ok (text.More t)) more = more t
    by (Ok (text.Done m)) more = refl
    by (Err fault) more = refl

-- the result of the lines of a text, from the beginning on, agrees with the verdict of the reader of texts
agrees_as : (limits : SizeLimits) (style : Style) (lines : List (Line (List ℕ))) (o : Option TextSaid) → text_said_within limits style lines ≡ o →
    Agrees o (text.judge limits style start 1 lines)
agrees_as limits style lines o is =
    subst (λ (said : Option TextSaid). Agrees said (text.judge limits style start 1 lines)) is
    (agree limits style start 0 lines)

pub said_spelled : (limits : SizeLimits) (style : Style) (lines : List (Line (List ℕ))) (m : Model) → text_said_within limits style lines ≡ Some (Ok m) →
    text.SpellsWithin limits style lines m
said_spelled limits style lines m is = agrees_as limits style lines (Some (Ok m)) is

pub said_refused : (limits : SizeLimits) (style : Style) (lines : List (Line (List ℕ))) (fault : MpsFault) →
    text_said_within limits style lines ≡ Some (Err fault) → text.RefusesWithin limits style lines fault.line fault.code
said_refused limits style lines fault is = agrees_as limits style lines (Some (Err fault)) is

pub said_cut : (limits : SizeLimits) (style : Style) (lines : List (Line (List ℕ))) → text_said_within limits style lines ≡ None →
    (n : ℕ) × text.RefusesWithin limits style lines n code.Cut
said_cut limits style lines is = agrees_as limits style lines None is

pub spelled_said : (limits : SizeLimits) (style : Style) (lines : List (Line (List ℕ))) (m : Model) → text.SpellsWithin limits style lines m →
    text_said_within limits style lines ≡ Some (Ok m)
spelled_said limits style lines m spells = by (text_said_within limits style lines) (agrees_as limits style lines (text_said_within limits style lines) refl)
  where
    by : (o : Option TextSaid) → Agrees o (text.judge limits style start 1 lines) → o ≡ Some (Ok m)
    by None h = let e : ◌≡◌ {A = text.Verdict} (text.Spelled m) (text.Refused h.0 code.Cut) = sym spells ∙ h.1 in cc
    by (Some (Ok other)) h = let e : ◌≡◌ {A = text.Verdict} (text.Spelled m) (text.Spelled other) = sym spells ∙ h in cc
    by (Some (Err fault)) h =
        let e : ◌≡◌ {A = text.Verdict} (text.Spelled m) (text.Refused fault.line fault.code) = sym spells ∙ h in cc
