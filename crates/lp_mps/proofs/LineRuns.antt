-- Runs of lines that are each read, and the verdict on a text.
--
-- `start_reached`: the first state is reached, by no lines.
-- `one_more`: where lines lead to a state and a line leads on, the lines with it lead to the next state.
-- `more_reached`: a state to which a line leads from a reached state is reached.
-- `joined`: where lines lead to a state, the verdict on them and more lines is the verdict on the latter from that
--   state.
-- `ends`: where lines lead to a state and the next line ends the text with a model, the text spells this model.
-- `refuses`: where lines lead to a state and the next line fails, the text is refused at that line with its code.
-- `done_within`: a model with which a line ends a text, from a reached state, may be kept and is within the limits.
-- `end_kept`: a model that the end of a text gives, from a reached state, may be kept.
-- `cut_off`: a text whose lines do not end it is refused behind its last line as cut off.
use Rattle.std.proofs.Common.{◌≡◌, ℕ, ◌+◌, Ok, Err, List, [], ◌∷◌, ◌++◌, length, refl, sym, ap, ◌∙◌, subst, arith}
use Rattle.std.proofs.lemmas.List.{append-nil}
use Rattle.spec_text.specs.declared.line.Line.{Line}
use Rattle.spec_model.specs.declared.parts.SizeLimits.{SizeLimits}
use Rattle.spec_model.specs.Model.{Model}
use Rattle.spec_model.specs.Kept.{AreAtMost, IsModelWithin, large_limits}
use Rattle.spec_model.proofs.KeptModels.{kept_within_more}
use Rattle.spec_mps.specs.declared.fault.Code.{Code}
use Rattle.spec_mps.specs.declared.fault.Code.TheVariants as code
use Rattle.spec_mps.specs.declared.style.Style.{Style}
use Rattle.spec_mps.specs.Reader.{State, start}
use Rattle.spec_mps.specs.Steps.{Outcome, More, Done, Refused, settled, judge, SpellsWithin, RefusesWithin, finished}
use Rattle.spec_mps.specs.Steps.{step}
use Rattle.spec_mps.proofs.SpelledKept.{spelled_kept}
use Rattle.lp_mps.specs.Finished.{IsKept}
use Rattle.lp_mps.specs.Leads.{Leads, IsReached}

-- no line leads from a state to itself
pub start_reached : (limits : SizeLimits) (style : Style) → IsReached limits style start
start_reached limits style = ([], refl)

pub one_more : (limits : SizeLimits) (style : Style) (s t u : State) (lines : List (Line (List ℕ)))
    (line : Line (List ℕ)) →
    Leads limits style s lines t → step limits style t line ≡ Ok (More u) → Leads limits style s (lines ++ line ∷ []) u
one_more limits style s t u [] line l h = (u, subst (λ v. step limits style v line ≡ Ok (More u)) (sym l) h, refl)
one_more limits style s t u (first ∷ lines) line l h = (l.0, l.1, one_more limits style l.0 t u lines line l.2 h)

-- one line more
pub more_reached : (limits : SizeLimits) (style : Style) (s t : State) (line : Line (List ℕ)) →
    IsReached limits style s →
    step limits style s line ≡ Ok (More t) → IsReached limits style t
more_reached limits style s t line r h = (r.0 ++ line ∷ [], one_more limits style start s t r.0 line r.1 h)

-- the lines after a run decide
pub joined : (limits : SizeLimits) (style : Style) (s t : State) (n : ℕ) (lines more : List (Line (List ℕ))) →
    Leads limits style s lines t →
    judge limits style s n (lines ++ more) ≡ judge limits style t (n + length lines) more
joined limits style s t n [] more l =
    let e : n ≡ n + 0 = omega arith in ap (λ u. judge limits style u n more) l ∙ ap (λ k. judge limits style t k more) e
joined limits style s t n (line ∷ lines) more l =
    let e : n + 1 + length lines ≡ n + length (line ∷ lines) = omega arith in
    ap (settled n (λ u. judge limits style u (n + 1) (lines ++ more))) l.1
    ∙ joined limits style l.0 t (n + 1) lines more l.2 ∙ ap (λ k. judge limits style t k more) e

pub ends : (limits : SizeLimits) (style : Style) (lines more : List (Line (List ℕ))) (line : Line (List ℕ)) (s : State)
    (m : Model) →
    Leads limits style start lines s → step limits style s line ≡ Ok (Done m) →
    SpellsWithin limits style (lines ++ line ∷ more) m
ends limits style lines more line s m l h =
    joined limits style start s 1 lines (line ∷ more) l
    ∙ ap (settled (1 + length lines) (λ u. judge limits style u (1 + length lines + 1) more)) h

pub refuses : (limits : SizeLimits) (style : Style) (lines more : List (Line (List ℕ))) (line : Line (List ℕ))
    (s : State) (code : Code) →
    Leads limits style start lines s → step limits style s line ≡ Err code →
    RefusesWithin limits style (lines ++ line ∷ more) (length lines + 1) code
refuses limits style lines more line s code l h =
    let e : 1 + length lines ≡ length lines + 1 = omega arith in
    joined limits style start s 1 lines (line ∷ more) l
    ∙ ap (settled (1 + length lines) (λ u. judge limits style u (1 + length lines + 1) more)) h
    ∙ ap (λ n. Refused n code) e

-- so a model at the end may be kept, within the limits
pub done_within : (limits : SizeLimits) (style : Style) (s : State) (line : Line (List ℕ)) (m : Model) →
    IsReached limits style s → step limits style s line ≡ Ok (Done m) → IsModelWithin limits m
done_within limits style s line m r e =
    spelled_kept limits style (r.0 ++ line ∷ []) m (ends limits style r.0 [] line s m r.1 e)

pub end_kept : (limits : SizeLimits) (style : Style) (s t : State) (line : Line (List ℕ)) →
    AreAtMost limits large_limits → IsReached limits style s → step limits style s line ≡ finished t →
    IsKept (finished t)
end_kept limits style s t line most r h = go (finished t) h
  where
    go : (o : Outcome) → step limits style s line ≡ o → IsKept o
    go (Ok (More u)) e = tt
    go (Ok (Done m)) e = kept_within_more limits large_limits m most (done_within limits style s line m r e)
    go (Err code) e = tt

-- where no line follows, the next one is wrong
pub cut_off : (limits : SizeLimits) (style : Style) (lines : List (Line (List ℕ))) (s : State) →
    Leads limits style start lines s →
    RefusesWithin limits style lines (length lines + 1) code.Cut
cut_off limits style lines s l =
    let e : 1 + length lines ≡ length lines + 1 = omega arith in
    ap (judge limits style start 1) (sym (append-nil lines))
    ∙ joined limits style start s 1 lines [] l ∙ ap (λ n. Refused n code.Cut) e
