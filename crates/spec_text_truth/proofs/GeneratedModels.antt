-- What `gen` writes: the line of a size and the line of an answer that is shown of the model.
--
-- `size_is`: the first line of what `gen` writes has the numbers of rows, columns and entries.
-- `answer_follows`: what `gen` writes begins with the line of the size and one of an answer that is true of the model.
use Rattle.std.proofs.Common.{◌≡◌, ℕ, false, List, [], ◌∷◌, ◌++◌, refl, sym, ap, ◌∙◌, append_assoc}
use Rattle.std.specs.Prelude.{codes, decimal, replicate}
use Rattle.spec_exact.specs.Fraction.{ℚ, 0ℚ}
use Rattle.spec_model.specs.Model.{Model, width, height}
use Rattle.spec_model.specs.Truth.{IsOptimal}
use Rattle.spec_mps.specs.NumberText.{Is, number_of}
use Rattle.spec_commands.specs.Generated.{generated}
use Rattle.spec_commands.proofs.GeneratedFeasible.{zero_feasible, bounded, height_is, width_is}
use Rattle.spec_runs.specs.Cold.{ExactSolveEnd}
use Rattle.spec_server.specs.Machine.{ExactReply, opening_budget, answer_of, pivots_of_solved}
use Rattle.spec_server.specs.Output.{check_line, reply_text, pivots_text}
use Rattle.spec_commands.specs.GenOut.{entry_count, size_text, generated_lines, SolvedOut, GenOut}
use Rattle.spec_truth.specs.TrueAnswer.{IsTrueOf}
use Rattle.spec_truth.proofs.ReplyLines.{looks_known}
use Rattle.spec_truth.proofs.Shown.{IsShownBy, answer_shown, answer_holds}
use Rattle.spec_truth.proofs.AnswerLines.{same_line, same_rest, optimal_line, infeasible_line, unbounded_line}
use Rattle.spec_text_truth.specs.TrueOutput.{HasNoFeed}
use Rattle.spec_text_truth.proofs.PlainText.{tested_no_feed, both_no_feed, decimal_no_feed}

-- ---- what is written

-- the line of the size, without its line feed
size_line : Model → List ℕ
size_line m =
    codes "MODEL " ++ decimal (height m) ++ codes " " ++ decimal (width m) ++ codes " " ++ decimal (entry_count m)

-- the text of a model's size is its line and a line feed
size_ends : (m : Model) → size_text m ≡ size_line m ++ 10 ∷ []
unfolding size_text size_line
size_ends m = refl

-- the line of a model's size has no line feed
size_no_feed : (m : Model) → HasNoFeed (size_line m)
unfolding size_line
size_no_feed m =
    let rows : List ℕ = decimal (height m) in
    let columns : List ℕ = decimal (width m) in
    let blank : HasNoFeed (codes " ") = tested_no_feed (codes " ") refl in
    both_no_feed (codes "MODEL " ++ rows ++ codes " " ++ columns ++ codes " ") (decimal (entry_count m))
    (both_no_feed (codes "MODEL " ++ rows ++ codes " " ++ columns) (codes " ")
    (both_no_feed (codes "MODEL " ++ rows ++ codes " ") columns
    (both_no_feed (codes "MODEL " ++ rows) (codes " ")
    (both_no_feed (codes "MODEL ") rows (tested_no_feed (codes "MODEL ") refl) (decimal_no_feed (height m))) blank)
    (decimal_no_feed (width m))) blank)
    (decimal_no_feed (entry_count m))

record IsSizeAndAnswer (m : Model) (written : List ℕ) : Type 0 where
  answer : ExactReply
  behind : List ℕ
  lines : written ≡ size_text m ++ reply_text answer ++ 10 ∷ behind
  shown : IsShownBy m answer

-- what stands behind the answer's line, of the end of a solve
pivots_line : ExactSolveEnd → List ℕ
pivots_line solved = codes "PIVOTS " ++ (pivots_text (pivots_of_solved solved) ++ 10 ∷ [])

-- what `gen` writes of a model is the line of its size, the line of the answer, and what is behind them
generated_begins : (m : Model) (solved : ExactSolveEnd) →
    generated_lines m solved
    ≡ size_text m ++ reply_text (answer_of opening_budget solved) ++ 10 ∷ pivots_line solved
unfolding generated_lines check_line pivots_line
generated_begins m solved =
    let size : List ℕ = size_text m in
    let answer : List ℕ = reply_text (answer_of opening_budget solved) in
    let pivots : List ℕ = pivots_text (pivots_of_solved solved) in
    let rest : List ℕ = codes "PIVOTS " ++ (pivots ++ 10 ∷ []) in
    append_assoc ((size ++ (answer ++ 10 ∷ [])) ++ codes "PIVOTS ") pivots (10 ∷ [])
    ∙ append_assoc (size ++ (answer ++ 10 ∷ [])) (codes "PIVOTS ") (pivots ++ 10 ∷ [])
    ∙ ap (λ (bs : List ℕ). bs ++ rest) (sym (append_assoc size answer (10 ∷ [])))
    ∙ append_assoc (size ++ answer) (10 ∷ []) rest

-- what `gen` writes of a model is the line of its size and the line of an answer that is shown of the model
out_answered : (m : Model) (written : List ℕ) → SolvedOut m written → IsSizeAndAnswer m written
out_answered m written out = record {
  answer = answer_of opening_budget out.0.end;
  behind = pivots_line out.0.end;
  lines = out.2 ∙ generated_begins m out.0.end;
  shown = answer_shown m opening_budget out.0.end out.1.may_answer;
}

-- ---- the first line, and the second

-- the bytes of a size and an answer are two lines, each with its line feed, and what is behind them
lines_are : (m : Model) (written : List ℕ) (r : IsSizeAndAnswer m written) →
    written ≡ size_line m ++ 10 ∷ (reply_text r.answer ++ 10 ∷ r.behind)
lines_are m written r =
    let answer : List ℕ = reply_text r.answer in
    r.lines
    ∙ ap (λ (bs : List ℕ). bs ++ answer ++ 10 ∷ r.behind) (size_ends m)
    ∙ append_assoc (size_line m ++ 10 ∷ []) answer (10 ∷ r.behind)
    ∙ append_assoc (size_line m) (10 ∷ []) (answer ++ 10 ∷ r.behind)

-- the first line of the bytes of a size and an answer is the line of the size
first_line : (m : Model) (written size rest : List ℕ) (r : IsSizeAndAnswer m written) → HasNoFeed size →
    written ≡ size ++ 10 ∷ rest → size_line m ≡ size
first_line m written size rest r no_feed e =
    same_line (size_line m) size (reply_text r.answer ++ 10 ∷ r.behind) rest (size_no_feed m) no_feed
    (sym (lines_are m written r) ∙ e)

-- behind the first line of the bytes of a size and an answer stands the line of the answer
second_line : (m : Model) (written size rest : List ℕ) (r : IsSizeAndAnswer m written) → HasNoFeed size →
    written ≡ size ++ 10 ∷ rest → reply_text r.answer ++ 10 ∷ r.behind ≡ rest
second_line m written size rest r no_feed e =
    same_rest (size_line m) size (reply_text r.answer ++ 10 ∷ r.behind) rest (size_no_feed m) no_feed
    (sym (lines_are m written r) ∙ e)

-- ---- the size

pub size_is : (seed rows columns : ℕ) →
    size_text (generated seed rows columns)
    ≡ codes "MODEL " ++ decimal rows ++ codes " " ++ decimal columns ++ codes " "
    ++ decimal (entry_count (generated seed rows columns)) ++ 10 ∷ []
unfolding size_text
size_is seed rows columns =
    let m : Model = generated seed rows columns in
    ap (λ (n : ℕ). codes "MODEL " ++ decimal n ++ codes " " ++ decimal (width m) ++ codes " "
    ++ decimal (entry_count m) ++ 10 ∷ []) (height_is seed rows columns)
    ∙ ap (λ (n : ℕ). codes "MODEL " ++ decimal rows ++ codes " " ++ decimal n ++ codes " "
    ++ decimal (entry_count m) ++ 10 ∷ []) (width_is seed rows columns)

-- ---- the answer

pub answer_follows : (seed rows columns : ℕ) (written : List ℕ) → GenOut seed rows columns written →
    (a : ExactReply) × (behind : List ℕ)
    × (written ≡ size_text (generated seed rows columns) ++ reply_text a ++ 10 ∷ behind)
    × IsTrueOf (generated seed rows columns) a
answer_follows seed rows columns written out =
    let m : Model = generated seed rows columns in
    let r = out_answered m written out in
    (r.answer, r.behind, r.lines, answer_holds m r.answer r.shown)

module _ (seed rows columns : ℕ) (written : List ℕ) (out : GenOut seed rows columns written) (size : List ℕ)
    (no_feed : HasNoFeed size) where
  -- what `gen` writes is the line of a size, and then that of an answer shown of the generated model
  answered : IsSizeAndAnswer (generated seed rows columns) written
  answered = out_answered (generated seed rows columns) written out

  -- a line of a size, with which the written bytes begin, does not look like a known answer
  pub size_other : (rest : List ℕ) → written ≡ size ++ 10 ∷ rest → looks_known size ≡ false
  unfolding size_line
  size_other rest e =
      ap looks_known (sym (first_line (generated seed rows columns) written size rest answered no_feed e))

  -- where `gen` writes a line and then `OPTIMAL` and a text, the text reads as the optimal value of the generated model
  pub optimal_follows : (text behind : List ℕ) → HasNoFeed text →
      written ≡ size ++ 10 ∷ (codes "OPTIMAL " ++ text ++ 10 ∷ behind) →
      (v : ℚ) × (number_of text ≡ Is v) × IsOptimal (generated seed rows columns) v
  optimal_follows text behind plain e =
      optimal_line (generated seed rows columns) answered.answer text answered.behind behind answered.shown plain
      (second_line (generated seed rows columns) written size (codes "OPTIMAL " ++ text ++ 10 ∷ behind) answered no_feed
      e)

  -- `gen` never writes `INFEASIBLE` as its second line
  pub never_infeasible : (behind : List ℕ) → written ≡ size ++ 10 ∷ (codes "INFEASIBLE" ++ 10 ∷ behind) → ⊥
  never_infeasible behind e =
      infeasible_line (generated seed rows columns) answered.answer answered.behind behind answered.shown
      (second_line (generated seed rows columns) written size (codes "INFEASIBLE" ++ 10 ∷ behind) answered no_feed e)
      (replicate columns 0ℚ) (zero_feasible seed rows columns)

  -- `gen` never writes `UNBOUNDED` as its second line
  pub never_unbounded : (behind : List ℕ) → written ≡ size ++ 10 ∷ (codes "UNBOUNDED" ++ 10 ∷ behind) → ⊥
  never_unbounded behind e =
      bounded seed rows columns
      (unbounded_line (generated seed rows columns) answered.answer answered.behind behind answered.shown
      (second_line (generated seed rows columns) written size (codes "UNBOUNDED" ++ 10 ∷ behind) answered no_feed e))
