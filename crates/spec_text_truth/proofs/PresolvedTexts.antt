-- What `presolve` writes of a text that spells a model: the line of the model that was solved, and the line of an answer
-- that is shown of the model.
--
-- `presolved_begins`: what `presolve` writes is the line of its way, the line of the answer or of why there is none,
--   and the lines of the certificate, if there is one.
-- `out_answered`: what `presolve` writes of a model is the line of its way, and then one of an answer that is shown of
--   it.
use Rattle.std.proofs.Common.{◌≡◌, ℕ, List, [], ◌∷◌, ◌++◌, Option, Some, Ok, refl, sym, ap, ◌∙◌, subst, append_assoc}
use Rattle.std.specs.Prelude.{codes, decimal}
use Rattle.spec_text.specs.declared.line.Line.{Line}
use Rattle.spec_exact.specs.Fraction.{ℚ}
use Rattle.spec_model.specs.Kept.{usual_limits}
use Rattle.spec_model.specs.Model.{Model}
use Rattle.spec_model.specs.Truth.{IsOptimal, IsInfeasible, IsUnbounded}
use Rattle.spec_mps.specs.declared.style.Style.{Style}
use Rattle.spec_mps.specs.NumberText.{Is, number_of}
use Rattle.spec_mps.specs.Steps.{Spells}
use Rattle.spec_presolve.specs.declared.presolved.Way.{Way}
use Rattle.spec_presolve.specs.declared.presolved.Way.TheVariants.{Reduced, Plain}
use Rattle.spec_presolve.specs.Presolved.{ExactPresolved}
use Rattle.spec_server.specs.Machine.{ExactReply, opening_budget, answer_of, lines_of_solved}
use Rattle.spec_server.specs.Output.{reply_text, ended_lines}
use Rattle.spec_server.specs.TextSaid.{TextSaid, text_said}
use Rattle.spec_commands.specs.PresolveOut.{way_line, presolved_lines, PresolveOut}
use Rattle.spec_truth.specs.TrueAnswer.{IsTrueOf}
use Rattle.spec_truth.proofs.Shown.{IsShownBy, answer_shown, answer_holds}
use Rattle.spec_text_truth.proofs.TextLemmas.{spelled_said}
use Rattle.spec_truth.proofs.AnswerLines.{same_rest, first, apart, optimal_line, infeasible_line}
use Rattle.spec_text_truth.specs.TrueOutput.{HasNoFeed}
use Rattle.spec_truth.proofs.AnswerLines.{unbounded_line}
use Rattle.spec_text_truth.proofs.PlainText.{tested_no_feed, both_no_feed, decimal_no_feed}
use Rattle.spec_text_truth.proofs.SolvedTexts.{solved_begins}

-- ---- what is written

pub record IsWayAndAnswer (m : Model) (written : List ℕ) : Type 0 where
  pub way : Way ℚ
  pub answer : ExactReply
  pub behind : List ℕ
  pub lines : written ≡ way_line way ++ (reply_text answer ++ 10 ∷ behind)
  pub shown : IsShownBy m answer

pub presolved_begins : (m : Model) (p : ExactPresolved) →
    presolved_lines m p
    ≡ way_line p.way ++ (reply_text (answer_of opening_budget p.end) ++ 10 ∷ ended_lines (lines_of_solved m p.end))
unfolding presolved_lines
presolved_begins m p = ap (λ (bs : List ℕ). way_line p.way ++ bs) (solved_begins m p.end)

pub out_answered : (m : Model) (written : List ℕ) → PresolveOut (Ok m) written → IsWayAndAnswer m written
out_answered m written out = record {
  way = out.0.way;
  answer = answer_of opening_budget out.0.end;
  behind = ended_lines (lines_of_solved m out.0.end);
  lines = out.2 ∙ presolved_begins m out.0;
  shown = answer_shown m opening_budget out.0.end out.1.may_answer;
}

-- `presolve` writes of a text that spells a model a way's line, and then that of an answer shown of the model
answered : (style : Style) (lines : List (Line (List ℕ))) (m : Model) (what : TextSaid) (written : List ℕ) →
    text_said style lines ≡ Some what → PresolveOut what written → Spells style lines m → IsWayAndAnswer m written
answered style lines m what written is out spells =
    let said : ◌≡◌ {A = Option TextSaid} (Some what) (Some (Ok m)) = sym is ∙ spelled_said usual_limits style lines m spells in
    let same : what ≡ Ok m = cc in
    out_answered m written (subst (λ (w : TextSaid). PresolveOut w written) same out)

-- ---- the line behind that of a smaller model

-- the line that gives a smaller model's size: the word REDUCED, the rows and the columns, without the line feed
size_line : ℕ → ℕ → List ℕ
size_line rows columns = codes "REDUCED " ++ decimal rows ++ codes " " ++ decimal columns

-- the line of a smaller model's size has no line feed
size_no_feed : (rows columns : ℕ) → HasNoFeed (size_line rows columns)
unfolding size_line
size_no_feed rows columns =
    both_no_feed (codes "REDUCED " ++ decimal rows ++ codes " ") (decimal columns)
    (both_no_feed (codes "REDUCED " ++ decimal rows) (codes " ")
    (both_no_feed (codes "REDUCED ") (decimal rows) (tested_no_feed (codes "REDUCED ") refl) (decimal_no_feed rows))
    (tested_no_feed (codes " ") refl))
    (decimal_no_feed columns)

-- where a way's line reads REDUCED and a size, what follows this line is what follows the way's
behind_size : (way : Way ℚ) (rest size other : List ℕ) → HasNoFeed size →
    way_line way ++ rest ≡ codes "REDUCED " ++ size ++ 10 ∷ other → rest ≡ other
unfolding size_line
behind_size (Reduced rows columns) rest size other no_feed e =
    same_rest (size_line rows columns) (codes "REDUCED " ++ size) rest other (size_no_feed rows columns)
    (both_no_feed (codes "REDUCED ") size (tested_no_feed (codes "REDUCED ") refl) no_feed)
    (sym (append_assoc (size_line rows columns) (10 ∷ []) rest) ∙ e)
behind_size (Plain why) rest size other no_feed e = absurd (apart 80 82 refl (ap first e))

-- ---- the answer

module _ (style : Style) (lines : List (Line (List ℕ))) (m : Model) (what : TextSaid) (written : List ℕ)
    (is : text_said style lines ≡ Some what) (out : PresolveOut what written) (spells : Spells style lines m) where
  -- what `presolve` writes of a text's model is the line of its way, and then that of an answer shown of the model
  told : IsWayAndAnswer m written
  told = answered style lines m what written is out spells

  -- what `presolve` writes of a text's model is the line of its way, and then the line of an answer that is true of the
  -- model
  pub presolved_answer : (way : Way ℚ) × (a : ExactReply) × (behind : List ℕ)
      × (written ≡ way_line way ++ (reply_text a ++ 10 ∷ behind)) × IsTrueOf m a
  presolved_answer = (told.way, told.answer, told.behind, told.lines, answer_holds m told.answer told.shown)

  -- where the written bytes begin with the line of the word REDUCED and a size, the answer's line and what is behind it
  -- are the rest
  second_line : (size rest : List ℕ) → HasNoFeed size → written ≡ codes "REDUCED " ++ size ++ 10 ∷ rest →
      reply_text told.answer ++ 10 ∷ told.behind ≡ rest
  second_line size rest no_feed e =
      behind_size told.way (reply_text told.answer ++ 10 ∷ told.behind) size rest no_feed (sym told.lines ∙ e)

  -- where `presolve` writes REDUCED and a size, and then `OPTIMAL` and a text, the text reads as the model's optimal
  -- value
  pub presolved_optimal : (size text behind : List ℕ) → HasNoFeed size → HasNoFeed text →
      written ≡ codes "REDUCED " ++ size ++ 10 ∷ (codes "OPTIMAL " ++ text ++ 10 ∷ behind) →
      (v : ℚ) × (number_of text ≡ Is v) × IsOptimal m v
  presolved_optimal size text behind no_feed plain e =
      optimal_line m told.answer text told.behind behind told.shown plain
      (second_line size (codes "OPTIMAL " ++ text ++ 10 ∷ behind) no_feed e)

  -- where `presolve` writes REDUCED and a size, and then `INFEASIBLE`, the model is infeasible
  pub presolved_infeasible : (size behind : List ℕ) → HasNoFeed size →
      written ≡ codes "REDUCED " ++ size ++ 10 ∷ (codes "INFEASIBLE" ++ 10 ∷ behind) → IsInfeasible m
  presolved_infeasible size behind no_feed e =
      infeasible_line m told.answer told.behind behind told.shown
      (second_line size (codes "INFEASIBLE" ++ 10 ∷ behind) no_feed e)

  -- where `presolve` writes REDUCED and a size, and then `UNBOUNDED`, the model is unbounded
  pub presolved_unbounded : (size behind : List ℕ) → HasNoFeed size →
      written ≡ codes "REDUCED " ++ size ++ 10 ∷ (codes "UNBOUNDED" ++ 10 ∷ behind) → IsUnbounded m
  presolved_unbounded size behind no_feed e =
      unbounded_line m told.answer told.behind behind told.shown
      (second_line size (codes "UNBOUNDED" ++ 10 ∷ behind) no_feed e)
