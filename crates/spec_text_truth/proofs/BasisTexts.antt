-- What `basis` writes of a model with a basis begins with the line of an answer that is shown of the model.
--
-- `handed_spells`: where a model is said of lines with a basis or without, the lines begin with a text that spells it.
-- `basis_begins`: what `basis` writes of a solve begins with the line of its answer.
-- `out_answered`: what `basis` writes of a model begins with the line of an answer that is shown of it.
-- `no_fault`: what begins with another letter than E is not the line of a fault.
-- `answer_begins`: what `basis` writes of a text's model begins with the line of an answer that is true of it.
-- `optimal_begins`: where `basis` writes `OPTIMAL` and a text, the lines spell a model whose optimal value the text
--   reads as.
-- `infeasible_begins`: where `basis` writes `INFEASIBLE`, the lines spell a model that is infeasible.
-- `unbounded_begins`: where `basis` writes `UNBOUNDED`, the lines spell a model that is unbounded.
use Rattle.std.proofs.Common.{◌≡◌, ℕ, nat_eq, false, List, [], ◌∷◌, ◌++◌, Some, Ok, Err, refl, sym, ap}
use Rattle.std.proofs.Common.{◌∙◌, append_assoc}
use Rattle.std.specs.Prelude.{codes}
use Rattle.spec_text.specs.declared.line.Line.{Line}
use Rattle.spec_exact.specs.Fraction.{ℚ}
use Rattle.spec_model.specs.declared.parts.SizeLimits.{SizeLimits}
use Rattle.spec_model.specs.Model.{Model}
use Rattle.spec_model.specs.Truth.{IsOptimal, IsInfeasible, IsUnbounded}
use Rattle.spec_model.specs.Kept.{usual_limits}
use Rattle.spec_mps.specs.declared.style.Style.{Style}
use Rattle.spec_mps.specs.NumberText.{Is, number_of}
use Rattle.spec_mps.specs.Reader.{start}
use Rattle.spec_mps.specs.Steps as text
use Rattle.spec_runs.specs.Solve.{SolveEnd}
use Rattle.spec_commands.specs.declared.basis.BasisFault.{BasisFault}
use Rattle.spec_commands.specs.declared.basis.BasisFault.TheVariants as fault
use Rattle.spec_server.specs.Machine.{ExactReply, opening_budget, answer_of, lines_of_solved}
use Rattle.spec_server.specs.Output.{check_line, reply_text, ended_lines}
use Rattle.spec_commands.specs.BasisOut.{Handed, BasisSaid, basis_said, route_line, final_text, basis_lines}
use Rattle.spec_commands.specs.BasisOut.{basis_fault_line, BasisOut}
use Rattle.spec_text_truth.specs.SpelledBasis.{BeginsWithText, form_at_limit}
use Rattle.spec_truth.specs.TrueAnswer.{IsTrueOf}
use Rattle.spec_truth.proofs.Shown.{answer_shown, answer_holds}
use Rattle.spec_text_truth.proofs.ReadLines.{spells_more}
use Rattle.spec_text_truth.proofs.SolvedTexts.{IsAnswered}
use Rattle.spec_truth.proofs.AnswerLines.{first, apart, optimal_line, infeasible_line, unbounded_line}
use Rattle.spec_text_truth.specs.TrueOutput.{HasNoFeed}
use Rattle.spec_text_truth.proofs.BasisLemmas.{said_handed}

-- ---- the text

-- lines that begin with the text of a model spell the model
begins_spells : (limits : SizeLimits) (style : Style) (lines : List (Line (List ℕ))) (m : Model) (behind : List (Line (List ℕ))) →
    BeginsWithText limits style lines m behind → text.SpellsWithin limits style lines m
begins_spells limits style lines m behind t =
    ap (text.judge limits style start 1) (t.cut ∙ sym (append_assoc t.front (t.last ∷ []) behind))
    ∙ spells_more limits style (t.front ++ t.last ∷ []) behind m t.spelled

pub handed_spells : (limits : SizeLimits) (style : Style) (lines : List (Line (List ℕ))) (handed : Handed) →
    basis_said limits style lines ≡ Some (Ok handed) → text.SpellsWithin limits style lines handed.model
handed_spells limits style lines handed is =
    let h = said_handed limits style lines handed is in begins_spells limits style lines handed.model h.behind h.text

-- ---- what is written

-- behind the answer's line
abbrev pub behind_answer : Model → SolveEnd → List ℕ
behind_answer m solved =
    route_line solved ++ (ended_lines (lines_of_solved m solved.end) ++ final_text m (form_at_limit m) solved.end)

pub basis_begins : (m : Model) (solved : SolveEnd) →
    basis_lines m solved ≡ reply_text (answer_of opening_budget solved.end) ++ 10 ∷ behind_answer m solved
unfolding basis_lines check_line
basis_begins m solved =
    let answer : List ℕ = reply_text (answer_of opening_budget solved.end) in
    let certificate : List ℕ = ended_lines (lines_of_solved m solved.end) in
    let final : List ℕ = final_text m (form_at_limit m) solved.end in
    append_assoc ((answer ++ 10 ∷ []) ++ route_line solved) certificate final
    ∙ append_assoc (answer ++ 10 ∷ []) (route_line solved) (certificate ++ final)
    ∙ append_assoc answer (10 ∷ []) (route_line solved ++ (certificate ++ final))

pub out_answered : (handed : Handed) (written : List ℕ) → BasisOut (Ok handed) written → IsAnswered handed.model written
out_answered handed written out =
    record {
      answer = answer_of opening_budget out.0.end;
      behind = behind_answer handed.model out.0;
      line = out.2 ∙ basis_begins handed.model out.0;
      shown = answer_shown handed.model opening_budget out.0.end out.1.may_answer;
    }

-- a fault's line begins with the letter E
fault_first : (why : BasisFault) → first (basis_fault_line why) ≡ 69
unfolding basis_fault_line check_line reply_text
fault_first (fault.Text why) = refl
fault_first (fault.File why) = refl

pub no_fault : (why : BasisFault) (written : List ℕ) (letter : ℕ) → nat_eq 69 letter ≡ false →
    written ≡ basis_fault_line why → first written ≡ letter → ⊥
no_fault why written letter h is e = apart 69 letter h (sym (ap first is ∙ fault_first why) ∙ e)

-- ---- the answer

pub answer_begins : (style : Style) (lines : List (Line (List ℕ))) (handed : Handed) (written : List ℕ) →
    basis_said usual_limits style lines ≡ Some (Ok handed) → BasisOut (Ok handed) written →
    text.Spells style lines handed.model
    × ((a : ExactReply) × (behind : List ℕ) × (written ≡ reply_text a ++ 10 ∷ behind)
    × IsTrueOf handed.model a)
answer_begins style lines handed written is out =
    let r = out_answered handed written out in
    (handed_spells usual_limits style lines handed is, (r.answer, r.behind, r.line, answer_holds handed.model r.answer r.shown))

pub optimal_begins : (style : Style) (lines : List (Line (List ℕ))) (what : BasisSaid) (written : List ℕ) →
    basis_said usual_limits style lines ≡ Some what → BasisOut what written →
    (value behind : List ℕ) → HasNoFeed value → written ≡ codes "OPTIMAL " ++ value ++ 10 ∷ behind →
    (v : ℚ) × (number_of value ≡ Is v) × ((m : Model) × text.Spells style lines m × IsOptimal m v)
optimal_begins style lines (Ok handed) written is out value behind no_feed e =
    let r = out_answered handed written out in
    let o = optimal_line handed.model r.answer value r.behind behind r.shown no_feed (sym r.line ∙ e) in
    (o.0, o.1, (handed.model, handed_spells usual_limits style lines handed is, o.2))
optimal_begins style lines (Err why) written is out value behind no_feed e =
    absurd (no_fault why written 79 refl out (ap first e))

pub infeasible_begins : (style : Style) (lines : List (Line (List ℕ))) (what : BasisSaid) (written : List ℕ) →
    basis_said usual_limits style lines ≡ Some what → BasisOut what written →
    (behind : List ℕ) → written ≡ codes "INFEASIBLE" ++ 10 ∷ behind →
    (m : Model) × text.Spells style lines m × IsInfeasible m
infeasible_begins style lines (Ok handed) written is out behind e =
    let r = out_answered handed written out in (
      handed.model,
      handed_spells usual_limits style lines handed is,
      infeasible_line handed.model r.answer r.behind behind r.shown (sym r.line ∙ e),
    )
infeasible_begins style lines (Err why) written is out behind e =
    absurd (no_fault why written 73 refl out (ap first e))

pub unbounded_begins : (style : Style) (lines : List (Line (List ℕ))) (what : BasisSaid) (written : List ℕ) →
    basis_said usual_limits style lines ≡ Some what → BasisOut what written →
    (behind : List ℕ) → written ≡ codes "UNBOUNDED" ++ 10 ∷ behind →
    (m : Model) × text.Spells style lines m × IsUnbounded m
unbounded_begins style lines (Ok handed) written is out behind e =
    let r = out_answered handed written out in (
      handed.model,
      handed_spells usual_limits style lines handed is,
      unbounded_line handed.model r.answer r.behind behind r.shown (sym r.line ∙ e),
    )
unbounded_begins style lines (Err why) written is out behind e =
    absurd (no_fault why written 85 refl out (ap first e))
