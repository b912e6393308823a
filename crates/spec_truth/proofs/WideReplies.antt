-- The first line that an exact solve replies says what is true of the model, or that nothing is known.
--
-- `lines_true`: the first line of a wide solve is `OPEN`, or says an answer that holds of the model.
-- `ends_agree`: two wide solves of a model, with any budgets, have the same first line unless one of them is `OPEN`.
-- `same_wide`: where two replies to the same wide solve may differ only by `OPEN`, and neither is, their first lines
--   are the same.
use Rattle.std.specs.Prelude.{codes}
use Rattle.std.proofs.Common.{◌≡◌, ◌≢◌, ℕ, List, [], ◌∷◌, None, refl, sym, ap, ◌∙◌, ◌⊎◌, inl, inr}
use Rattle.spec_exact.specs.Fraction.{ℚ}
use Rattle.spec_model.specs.Model.{Model}
use Rattle.spec_check.specs.declared.certificate.Known.{Known}
use Rattle.spec_check.specs.Certificate.{Holds}
use Rattle.spec_solve.specs.declared.exact.ExactEnd.TheVariants.{Answered, Open}
use Rattle.spec_solve.specs.Exact.{RationalEnd, IsExactEnd}
use Rattle.spec_solve.proofs.ExactAnswers.{answer_true}
use Rattle.spec_solve.proofs.TrueAnswers.{one_truth}
use Rattle.spec_server.specs.WideLines.{wide_known_text, wide_lines}
use Rattle.spec_server.specs.declared.asks.Ask.TheVariants as ask
use Rattle.spec_server.specs.declared.asks.Reply.TheVariants as reply
use Rattle.spec_server.specs.declared.command.Plain.TheVariants as command
use Rattle.spec_server.specs.Machine.{ExactReply}
use Rattle.spec_truth.specs.Agree.{IsOpen, IsWonLine, IsSameBut}

-- the line is that of an answer that holds of the model
pub record IsKnownLine (m : Model) (line : List ℕ) : Type 0 where
  pub what : Known ℚ
  pub is_line : line ≡ wide_known_text what
  pub holds : Holds m what

-- there is a first line, and it is `OPEN` or the line of an answer that is true of the model
abbrev pub BeginsTrue : Model → List (List ℕ) → Type 0
BeginsTrue m [] = ⊥
BeginsTrue m (line ∷ more) = IsOpen line ⊎ IsKnownLine m line

pub lines_true : (m : Model) (budget : ℕ) (end : RationalEnd) → IsExactEnd m budget None end →
    BeginsTrue m (wide_lines m end)
lines_true m budget (Answered a) h = inr (record { what = a.known; is_line = refl; holds = answer_true m a h })
lines_true m budget Open h = inl refl

-- ---- two of them

-- two lists of lines that begin as is true of a model have the same first line, or one of these is `OPEN`
lines_agree : (m : Model) (lines lines' : List (List ℕ)) → BeginsTrue m lines → BeginsTrue m lines' →
    IsWonLine lines lines'
lines_agree m [] lines' h k = absurd h
lines_agree m (line ∷ more) [] h k = absurd k
lines_agree m (line ∷ more) (line' ∷ more') h k = by h k
  where
    by : IsOpen line ⊎ IsKnownLine m line → IsOpen line' ⊎ IsKnownLine m line' →
        (line ≡ line') ⊎ (IsOpen line ⊎ IsOpen line')
    by (inl h) k = inr (inl h)
    by (inr h) (inl k) = inr (inr k)
    by (inr h) (inr k) =
        inl (h.is_line ∙ ap wide_known_text (one_truth m h.what k.what h.holds k.holds) ∙ sym k.is_line)

pub ends_agree : (m : Model) (budget other : ℕ) (a b : RationalEnd) → IsExactEnd m budget None a →
    IsExactEnd m other None b → IsWonLine (wide_lines m a) (wide_lines m b)
ends_agree m budget other a b h k =
    lines_agree m (wide_lines m a) (wide_lines m b) (lines_true m budget a h) (lines_true m other b k)

-- the first of some lines, and the empty one where there are none
first_line : List (List ℕ) → List ℕ
first_line [] = []
first_line (line ∷ more) = line

-- the lines of the reply to a wide solve, and none for another reply
lines_of : ExactReply → List (List ℕ)
lines_of (reply.Wide lines) = lines
lines_of other = []

pub same_wide : (line line' : List ℕ) (more more' : List (List ℕ)) →
    IsSameBut (ask.Plain command.Wide) (reply.Wide (line ∷ more)) (reply.Wide (line' ∷ more')) →
    line ≢ codes "OPEN" → line' ≢ codes "OPEN" → line ≡ line'
unfolding first_line lines_of
same_wide line line' more more' (inl same) known known' = ap (λ (r : ExactReply). first_line (lines_of r)) same
same_wide line line' more more' (inr (inl same)) known known' = same
same_wide line line' more more' (inr (inr (inl unknown))) known known' = absurd (known unknown)
same_wide line line' more more' (inr (inr (inr unknown))) known known' = absurd (known' unknown)
