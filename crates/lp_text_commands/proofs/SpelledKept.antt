-- A model that is said of a text is within the usual limits.
--
-- `heard_kept`: a model that was heard of a text is usual.
-- `may_take`: where one property implies another, what may be taken for the one may be taken for the other.
use Rattle.std.proofs.Common.{◌≡◌, ℕ, ◌+◌, List, [], ◌∷◌, ◌++◌, take, Option, Some, Result, Ok, Err, ap, ⊎_elim}
use Rattle.spec_text.specs.declared.line.Line.{Line}
use Rattle.spec_text.specs.declared.line.Line.TheVariants as line
use Rattle.spec_text.specs.Lines.{lines_of, ended_lines_of, input_limit}
use Rattle.spec_model.specs.Model.{Model}
use Rattle.spec_model.specs.Kept.{IsUsualModel, usual_limits}
use Rattle.spec_model.proofs.KeptModels.{usual_from_within}
use Rattle.spec_mps.specs.declared.style.Style.{Style}
use Rattle.spec_mps.specs.Reader.{State, start}
use Rattle.spec_mps.specs.Steps as text
use Rattle.spec_mps.proofs.SpelledKept.{spelled_kept}
use Rattle.spec_server.specs.Said.{said_by, follow}
use Rattle.spec_server.specs.TextSaid.{TextSaid, text_said, text_step, behind_line}
use Rattle.lp_text_commands.specs.Hearing.{Hears}
use Rattle.lp_text_commands.specs.Said.{MayTake}

-- where the same is said of two texts, the models are the same
same_model : (m o : Model) → ◌≡◌ {A = Option TextSaid} (Some (Ok m)) (Some (Ok o)) → m ≡ o
same_model m o e = cc

-- lines that say a model spell it
spelled_from : (style : Style) (lines : List (Line (List ℕ))) (s : State) (n : ℕ) (m : Model) →
    said_by (text_step usual_limits style) (record { state = s; lines = n }) lines ≡ Some (Ok m) →
    text.judge usual_limits style s (n + 1) lines ≡ text.Spelled m
unfolding text_step
spelled_from style [] s n m h = absurd (cc)
spelled_from style (next ∷ lines) s n m h = by (text.step usual_limits style s next) (λ t. spelled_from style lines t
    (n + 1) m) h
  where
    by : (o : text.Outcome)
        → ((t : State) → said_by (text_step usual_limits style) (record { state = t; lines = n + 1 }) lines ≡ Some
        (Ok m) →
        text.judge usual_limits style t (n + 1 + 1) lines ≡ text.Spelled m)
        → follow (behind_line (n + 1) o) (λ stage. said_by (text_step usual_limits style) stage lines) ≡ Some (Ok m)
        → text.settled (n + 1) (λ t. text.judge usual_limits style t (n + 1 + 1) lines) o ≡ text.Spelled m
    by (Ok (text.More t)) rest h = rest t h
    by (Ok (text.Done d)) rest h = ap text.Spelled (same_model d m h)
    by (Err code) rest h = absurd (cc)

-- a model that is said of the lines of a text is usual
said_kept : (style : Style) (lines : List (Line (List ℕ))) (what : TextSaid) → text_said style lines ≡ Some what →
    MayTake IsUsualModel what
said_kept style lines (Ok m) h = usual_from_within m (spelled_kept usual_limits style lines m (spelled_from style lines
    start 0 m h))
said_kept style lines (Err fault) h = tt

-- what is heard of a text from its start on
pub heard_kept : (style : Style) (before after : Option (List ℕ)) (what : TextSaid) →
    Hears (text_said style) before after what → MayTake IsUsualModel what
heard_kept style before after what h =
    ⊎_elim (λ early. said_kept style (ended_lines_of (take input_limit (h.read ++ []))) what (early []))
    (λ at_end. said_kept style (lines_of h.read ++ line.End ∷ []) what at_end.all) h.is_said

-- what takes all of a kind takes what is said, if that is of the kind
pub may_take : {G F : Type 0} (Kind Takes : G → Type 0) (what : Result G F) → ((given : G) → Kind given → Takes given) →
    MayTake Kind what → MayTake Takes what
may_take Kind Takes (Ok given) takes is = takes given is
may_take Kind Takes (Err fault) takes is = tt
