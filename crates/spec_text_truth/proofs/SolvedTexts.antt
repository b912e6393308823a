-- What `solve` writes of a text that spells a model begins with the line of an answer that is shown of the model.
--
-- `solved_begins`: what `solve` writes of an end is the line of its answer and then those of its certificate.
-- `out_answered`: what `solve` writes of a model begins with the line of an answer that is shown of it.
-- `same_said`: two things that are said of the same lines are the same.
-- `answer_begins`: what `solve` writes of a text's model begins with the line of an answer that is true of it.
-- `optimal_begins`: where `solve` writes `OPTIMAL` and a text, the text reads as the model's optimal value.
-- `infeasible_begins`: where `solve` writes `INFEASIBLE`, the model that the lines spell is infeasible.
-- `unbounded_begins`: where `solve` writes `UNBOUNDED`, the model that the lines spell is unbounded.
use Rattle.std.proofs.Common.{◌≡◌, ℕ, List, [], ◌∷◌, ◌++◌, Option, Some, Ok, sym, ◌∙◌, subst, append_assoc}
use Rattle.std.specs.Prelude.{codes}
use Rattle.spec_text.specs.declared.line.Line.{Line}
use Rattle.spec_exact.specs.Fraction.{ℚ}
use Rattle.spec_model.specs.Model.{Model}
use Rattle.spec_model.specs.Kept.{usual_limits}
use Rattle.spec_model.specs.Truth.{IsOptimal, IsInfeasible, IsUnbounded}
use Rattle.spec_mps.specs.declared.style.Style.{Style}
use Rattle.spec_mps.specs.NumberText.{Is, number_of}
use Rattle.spec_mps.specs.Steps.{Spells}
use Rattle.spec_runs.specs.Cold.{ExactSolveEnd}
use Rattle.spec_server.specs.Machine.{ExactReply, opening_budget, answer_of, lines_of_solved}
use Rattle.spec_server.specs.Output.{check_line, reply_text, ended_lines}
use Rattle.spec_server.specs.TextSaid.{TextSaid, text_said}
use Rattle.spec_commands.specs.SolveOut.{solved_lines, SolveOut}
use Rattle.spec_truth.specs.TrueAnswer.{IsTrueOf}
use Rattle.spec_truth.proofs.Shown.{IsShownBy, answer_shown, answer_holds}
use Rattle.spec_text_truth.proofs.TextLemmas.{spelled_said}
use Rattle.spec_truth.proofs.AnswerLines.{optimal_line, infeasible_line, unbounded_line}
use Rattle.spec_text_truth.specs.TrueOutput.{HasNoFeed}

pub record IsAnswered (m : Model) (written : List ℕ) : Type 0 where
  pub answer : ExactReply
  pub behind : List ℕ
  pub line : written ≡ reply_text answer ++ 10 ∷ behind
  pub shown : IsShownBy m answer

pub solved_begins : (m : Model) (solved : ExactSolveEnd) →
    solved_lines m solved ≡ reply_text (answer_of opening_budget solved) ++ 10 ∷ ended_lines (lines_of_solved m solved)
unfolding solved_lines check_line
solved_begins m solved =
    append_assoc (reply_text (answer_of opening_budget solved)) (10 ∷ []) (ended_lines (lines_of_solved m solved))

pub out_answered : (m : Model) (written : List ℕ) → SolveOut (Ok m) written → IsAnswered m written
out_answered m written out =
    record {
      answer = answer_of opening_budget out.0.end;
      behind = ended_lines (lines_of_solved m out.0.end);
      line = out.2 ∙ solved_begins m out.0.end;
      shown = answer_shown m opening_budget out.0.end out.1.may_answer;
    }

pub same_said : (a b : TextSaid) → ◌≡◌ {A = Option TextSaid} (Some a) (Some b) → a ≡ b
same_said a b e = cc

-- `solve` writes of a text that spells a model first the line of an answer that is shown of the model
answered : (style : Style) (lines : List (Line (List ℕ))) (m : Model) (what : TextSaid) (written : List ℕ) →
    text_said style lines ≡ Some what → SolveOut what written → Spells style lines m → IsAnswered m written
answered style lines m what written is out spells =
    let same : what ≡ Ok m = same_said what (Ok m) (sym is ∙ spelled_said usual_limits style lines m spells) in
    out_answered m written (subst (λ (w : TextSaid). SolveOut w written) same out)

-- ---- the answer

pub answer_begins : (style : Style) (lines : List (Line (List ℕ))) (m : Model) (what : TextSaid) (written : List ℕ) →
    text_said style lines ≡ Some what → SolveOut what written → Spells style lines m →
    (a : ExactReply) × (behind : List ℕ) × (written ≡ reply_text a ++ 10 ∷ behind) × IsTrueOf m a
answer_begins style lines m what written is out spells =
    let r = answered style lines m what written is out spells in
    (r.answer, r.behind, r.line, answer_holds m r.answer r.shown)

pub optimal_begins : (style : Style) (lines : List (Line (List ℕ))) (m : Model) (what : TextSaid) (written : List ℕ) →
    text_said style lines ≡ Some what → SolveOut what written → Spells style lines m →
    (text behind : List ℕ) → HasNoFeed text → written ≡ codes "OPTIMAL " ++ text ++ 10 ∷ behind →
    (v : ℚ) × (number_of text ≡ Is v) × IsOptimal m v
optimal_begins style lines m what written is out spells text behind no_feed e =
    let r = answered style lines m what written is out spells in
    optimal_line m r.answer text r.behind behind r.shown no_feed (sym r.line ∙ e)

pub infeasible_begins : (style : Style) (lines : List (Line (List ℕ))) (m : Model) (what : TextSaid)
    (written : List ℕ) → text_said style lines ≡ Some what → SolveOut what written → Spells style lines m →
    (behind : List ℕ) → written ≡ codes "INFEASIBLE" ++ 10 ∷ behind → IsInfeasible m
infeasible_begins style lines m what written is out spells behind e =
    let r = answered style lines m what written is out spells in
    infeasible_line m r.answer r.behind behind r.shown (sym r.line ∙ e)

pub unbounded_begins : (style : Style) (lines : List (Line (List ℕ))) (m : Model) (what : TextSaid) (written : List ℕ) →
    text_said style lines ≡ Some what → SolveOut what written → Spells style lines m →
    (behind : List ℕ) → written ≡ codes "UNBOUNDED" ++ 10 ∷ behind → IsUnbounded m
unbounded_begins style lines m what written is out spells behind e =
    let r = answered style lines m what written is out spells in
    unbounded_line m r.answer r.behind behind r.shown (sym r.line ∙ e)
