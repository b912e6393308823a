-- In a run of sessions, what the text of a reply says is true of the model that the session has then.
--
-- `value_said`: where a reply prints `OPTIMAL` and a text, the text reads as the optimal value of the model held then.
-- `known_said`: where a reply prints a text, after `YES` or not, that no reply but those with this answer prints so,
--   the answer holds of the model held then.
use Rattle.std.proofs.Common.{◌≡◌, inl, inr, ℕ, List, ◌∷◌, ◌++◌, Some, sym, ◌∙◌, ap}
use Rattle.std.specs.Prelude.{codes}
use Rattle.spec_exact.specs.Fraction.{ℚ}
use Rattle.spec_model.specs.Model.{Model}
use Rattle.spec_model.specs.Truth.{IsOptimal}
use Rattle.spec_mps.specs.NumberText.{Is, number_of}
use Rattle.spec_mps.specs.NumberWritten.{number_text}
use Rattle.spec_check.specs.Certificate.{Holds}
use Rattle.spec_check.specs.declared.certificate.Known.{Known}
use Rattle.spec_check.specs.declared.certificate.Known.TheVariants as known
use Rattle.spec_server.specs.Machine.{ExactReply}
use Rattle.spec_server.specs.Exchanges.{Exchange, RunAlone}
use Rattle.spec_server.specs.Output.{reply_text}
use Rattle.spec_truth.specs.ModelThen.{model_then}
use Rattle.spec_truth.specs.TrueAnswer.{Says}
use Rattle.spec_truth.proofs.Shown.{value_fits, shown_holds}
use Rattle.spec_truth.proofs.AnswerLines.{read_back}
use Rattle.spec_truth.proofs.ReplyLines.{answer_to, yes_to, optimal_answer, optimal_yes}
use Rattle.spec_truth.proofs.TrueRuns.{IsShownThen, answered_then, accepted_then, answered_holds, accepted_holds}

-- the value that a text reads as is optimal for the model that the session has then
abbrev IsValueThen : List Exchange → Exchange → List ℕ → Type 0
IsValueThen before x text =
    (v : ℚ) × (number_of text ≡ Is v) × ((m : Model) × (model_then x.session before ≡ Some m) × IsOptimal m v)

-- where an optimal value is shown of the model held then, its text reads as this value, which is optimal
value_then : (before : List Exchange) (x : Exchange) (text : List ℕ) (v : ℚ) → number_text v ≡ text →
    IsShownThen before x (known.Optimal v) → IsValueThen before x text
value_then before x text v same s = (
  v,
  ap number_of (sym same) ∙ read_back v (value_fits s.model v s.shown),
  (s.model, s.is_held, shown_holds s.model (known.Optimal v) s.shown),
)

pub value_said : (places : ℕ) (before behind : List Exchange) (x : Exchange) (text : List ℕ) →
    RunAlone places (before ++ x ∷ behind) → Says x.reply (codes "OPTIMAL " ++ text) → IsValueThen before x text
value_said places before behind x text fits (inl e) =
    let y = optimal_answer x.reply text e in
    value_then before x text y.0 y.2 (answered_then places before behind x (known.Optimal y.0) fits y.1)
value_said places before behind x text fits (inr e) =
    let y = optimal_yes x.reply text e in
    value_then before x text y.0 y.2 (accepted_then places before behind x (known.Optimal y.0) fits y.1)

-- by what a text says as an answer, and behind the word YES
pub known_said : (what : Known ℚ) (text : List ℕ) →
    ((is : ExactReply) → reply_text is ≡ text → is ≡ answer_to what) →
    ((is : ExactReply) → reply_text is ≡ codes "YES " ++ text → is ≡ yes_to what) →
    (places : ℕ) (before behind : List Exchange) (x : Exchange) → RunAlone places (before ++ x ∷ behind) →
    Says x.reply text → (m : Model) × (model_then x.session before ≡ Some m) × Holds m what
known_said what text as_answer as_yes places before behind x fits (inl e) =
    answered_holds places before behind x what fits (as_answer x.reply e)
known_said what text as_answer as_yes places before behind x fits (inr e) =
    accepted_holds places before behind x what fits (as_yes x.reply e)
