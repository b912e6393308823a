-- What `iis` writes of a text that spells a model is true of the model.
use Rattle.std.proofs.Common.{◌≡◌, ℕ, Bool, true, false, cond, List, [], ◌∷◌, ◌++◌, length, map, get_or, Some, Ok}
use Rattle.std.proofs.Common.{◌<◌, refl, sym, ◌∙◌, ap, subst, append_assoc, arith}
use Rattle.std.specs.Prelude.{All, codes, decimal}
use Rattle.std.proofs.lemmas.List.Elements.{All-head, All-tail}
use Rattle.spec_text.specs.declared.line.Line.{Line}
use Rattle.spec_exact.specs.Fraction.{ℚ}
use Rattle.spec_model.specs.Model.{Model, Name, no_row, no_column, width, height, row, column}
use Rattle.spec_model.specs.Truth.{IsOptimal, IsInfeasible, IsUnbounded}
use Rattle.spec_model.specs.Kept.{IsModel, row_place, column_place, usual_limits}
use Rattle.spec_model.proofs.NamePlaces.{row_at, column_at}
use Rattle.spec_model.proofs.KeptModels.{usual_from_within}
use Rattle.spec_mps.specs.declared.style.Style.{Style}
use Rattle.spec_mps.specs.NumberText.{Is, number_of}
use Rattle.spec_mps.specs.Steps.{Spells}
use Rattle.spec_mps.proofs.SpelledKept.{spelled_kept}
use Rattle.spec_mps.proofs.WrittenNames.{name_word, row_name_word}
use Rattle.spec_check.specs.declared.certificate.Certificate.{Certificate}
use Rattle.spec_check.specs.declared.certificate.Known.TheVariants as known
use Rattle.spec_check.specs.declared.solve_end.SolveEnd.TheVariants as outcome
use Rattle.spec_runs.specs.Cold.{ExactSolveEnd}
use Rattle.spec_iis.specs.declared.side.Side.{Side}
use Rattle.spec_iis.specs.declared.outcome.Iis.TheVariants.{Found, Other, Stopped}
use Rattle.spec_iis.specs.Sides.{IsSide}
use Rattle.spec_iis.specs.Only.{only}
use Rattle.spec_iis.specs.Found.{ExactIis, IsReached, IsElse, MayFind}
use Rattle.spec_commands.specs.IisOut.{kind_word, end_word, side_line, point_lines, found_lines, end_words, iis_lines}
use Rattle.spec_commands.specs.IisOut.{IisOut}
use Rattle.spec_certificate.specs.TextWritten.{certificate_lines}
use Rattle.spec_server.specs.declared.asks.Reply.TheVariants as reply
use Rattle.spec_server.specs.Machine.{ExactReply, opening_budget, answer_of}
use Rattle.spec_server.specs.Output.{reply_text, ended_lines}
use Rattle.spec_server.specs.TextSaid.{TextSaid, text_said}
use Rattle.spec_server.proofs.Output.{ended_append}
use Rattle.spec_text_truth.specs.SaidSides.{SaysSides}
use Rattle.spec_truth.specs.TrueAnswer.{IsTrueOf}
use Rattle.spec_truth.proofs.Shown.{IsShown, answer_shown, answer_holds}
use Rattle.spec_text_truth.proofs.SolvedTexts.{IsAnswered, same_said}
use Rattle.spec_text_truth.proofs.TextLemmas.{spelled_said}
use Rattle.spec_text_truth.proofs.PlainText.{tested_no_feed, both_no_feed, decimal_no_feed}
use Rattle.spec_text_truth.proofs.RangedTexts.{HasNo, cut_at, printed_has_no}
use Rattle.spec_truth.proofs.AnswerLines.{first, apart, optimal_line, infeasible_line, unbounded_line}
use Rattle.spec_text_truth.specs.TrueOutput.{HasNoFeed}

-- ---- the line of a side

abbrev name_at : Model → Bool → ℕ → Name
name_at m r k = cond r (row m k).name (column m k).name

-- of a row or a column, the upper one or the lower one, and its number
abbrev line_by : Model → Bool → Bool → ℕ → List ℕ
line_by m r u k = kind_word r ++ end_word u ++ name_at m r k

-- whose side it is
abbrev Stands : Model → Bool → ℕ → Type 0
Stands m true k = k < height m
Stands m false k = k < width m

-- a number below the count of rows, or of columns, is that of a row, or of a column
stands : (m : Model) (r : Bool) (k : ℕ) → k < cond r (height m) (width m) → Stands m r k
stands m true k l = l
stands m false k l = l

abbrev SameWay : Model → Bool → Bool → Bool → Bool → ℕ → ℕ → Type 0
SameWay m r q u v k j = (r ≡ q) × (u ≡ v) × (name_at m r k ≡ name_at m r j)

-- where the lines of two sides are the same, both are of rows or of columns, at the same end, with the same name
same_way : (m : Model) (r q u v : Bool) (k j : ℕ) → line_by m r u k ≡ line_by m q v j → SameWay m r q u v k j
same_way m true true true true k j e = let same : (row m k).name ≡ (row m j).name = cc in (refl, refl, same)
same_way m true true false false k j e = let same : (row m k).name ≡ (row m j).name = cc in (refl, refl, same)
same_way m false false true true k j e = let same : (column m k).name ≡ (column m j).name = cc in (refl, refl, same)
same_way m false false false false k j e = let same : (column m k).name ≡ (column m j).name = cc in (refl, refl, same)
same_way m true true true false k j e = absurd (apart 85 76 refl (ap (λ t. get_or t 4 0) e))
same_way m true true false true k j e = absurd (apart 76 85 refl (ap (λ t. get_or t 4 0) e))
same_way m false false true false k j e = absurd (apart 85 76 refl (ap (λ t. get_or t 7 0) e))
same_way m false false false true k j e = absurd (apart 76 85 refl (ap (λ t. get_or t 7 0) e))
same_way m true false u v k j e = absurd (apart 82 67 refl (ap first e))
same_way m false true u v k j e = absurd (apart 67 82 refl (ap first e))

-- in a model that may be kept, two rows or two columns with the same name are in the same place
same_place : (m : Model) → IsModel m → (r : Bool) (k j : ℕ) → Stands m r k → Stands m r j →
    name_at m r k ≡ name_at m r j → k ≡ j
same_place m h true k j l i e =
    let same : Some k ≡ Some j = sym (row_at m h k l) ∙ ap (row_place m) e ∙ row_at m h j i in cc
same_place m h false k j l i e =
    let same : Some k ≡ Some j = sym (column_at m h k l) ∙ ap (column_place m) e ∙ column_at m h j i in cc

abbrev side : Bool → ℕ → Bool → Side
side r k u = record { row = r; at = k; upper = u }

-- two sides of the same row or column at the same end are the same
joined : (s t : Side) → s.row ≡ t.row → s.at ≡ t.at → s.upper ≡ t.upper → s ≡ t
joined s t a b c = by s.row t.row s.at t.at s.upper t.upper a b c
  where
    by : (r q : Bool) (k j : ℕ) (u v : Bool) → r ≡ q → k ≡ j → u ≡ v → side r k u ≡ side q j v
    by r q k j u v e f g = cc

-- two sides of a model that may be kept are the same where their lines are
same_side : (m : Model) → IsModel m → (s t : Side) → IsSide m s → IsSide m t → side_line m s ≡ side_line m t → s ≡ t
unfolding side_line
same_side m h s t a b e =
    let w = same_way m s.row t.row s.upper t.upper s.at t.at e in
    let other = subst (λ (r : Bool). Stands m r t.at) (sym w.0) (stands m t.row t.at b.inside) in
    joined s t w.0 (same_place m h s.row s.at t.at (stands m s.row s.at a.inside) other w.2) w.1

-- ---- it is one line

-- the name of a row or column of a model that may be kept has no line feed
name_no_feed : (m : Model) → IsModel m → (r : Bool) (k : ℕ) → Stands m r k → HasNo 10 (name_at m r k)
name_no_feed m h true k l =
    printed_has_no 10 (omega arith) (row m k).name (row_name_word (row m k).name (h.rows k no_row l)).printable
name_no_feed m h false k l =
    printed_has_no 10 (omega arith) (column m k).name
    (name_word (column m k).name (h.columns k no_column l).name).printable

-- where a name has no line feed, the line of a side with this name has none
words_no_feed : (r u : Bool) (name : List ℕ) → HasNo 10 name → HasNo 10 (kind_word r ++ end_word u ++ name)
words_no_feed r u name h =
    both_no_feed (kind_word r ++ end_word u) name (by r u) h
  where
    by : (r u : Bool) → HasNo 10 (kind_word r ++ end_word u)
    by true true = tested_no_feed (codes "ROW UPPER ") refl
    by true false = tested_no_feed (codes "ROW LOWER ") refl
    by false true = tested_no_feed (codes "COLUMN UPPER ") refl
    by false false = tested_no_feed (codes "COLUMN LOWER ") refl

-- the line of a side of a model that may be kept has no line feed
side_no_feed : (m : Model) → IsModel m → (s : Side) → IsSide m s → HasNo 10 (side_line m s)
unfolding side_line
side_no_feed m h s a =
    words_no_feed s.row s.upper (name_at m s.row s.at)
    (name_no_feed m h s.row s.at (stands m s.row s.at a.inside))

-- ---- lines of sides

-- the text of lines with more behind it is the first line, a line feed, and the other lines with more behind them
pub ended_more : (line : List ℕ) (lines : List (List ℕ)) (more : List ℕ) →
    ended_lines (line ∷ lines) ++ more ≡ line ++ 10 ∷ (ended_lines lines ++ more)
unfolding ended_lines
ended_more line lines more =
    append_assoc (line ++ 10 ∷ []) (ended_lines lines) more
    ∙ append_assoc line (10 ∷ []) (ended_lines lines ++ more)

-- where as many other sides have the same lines, they are the same sides
sides_read : (m : Model) → IsModel m → (sides others : List Side) (more rest : List ℕ) → All (IsSide m) sides →
    All (IsSide m) others → length others ≡ length sides →
    ended_lines (map (side_line m) sides) ++ more ≡ ended_lines (map (side_line m) others) ++ rest → others ≡ sides
sides_read m h [] [] more rest are others_are same e = refl
sides_read m h [] (t ∷ others) more rest are others_are same e = absurd (omega (arith, same))
sides_read m h (s ∷ sides) [] more rest are others_are same e = absurd (omega (arith, same))
sides_read m h (s ∷ sides) (t ∷ others) more rest are others_are same e =
    let one = All-head (IsSide m) s sides are in
    let other = All-head (IsSide m) t others others_are in
    let cut =
    cut_at 10 (side_line m s) (side_line m t) (ended_lines (map (side_line m) sides) ++ more)
    (ended_lines (map (side_line m) others) ++ rest) (side_no_feed m h s one) (side_no_feed m h t other)
    (sym (ended_more (side_line m s) (map (side_line m) sides) more) ∙ e
    ∙ ended_more (side_line m t) (map (side_line m) others) rest)
    in
    let head : s ≡ t = same_side m h s t one other cut.0 in
    let tail : others ≡ sides =
    sides_read m h sides others more rest (All-tail (IsSide m) s sides are) (All-tail (IsSide m) t others others_are)
    (omega (arith, same)) cut.1
    in
    cc

-- ---- what is written

-- what stands behind the sides
abbrev behind_sides : Model → List Side → Certificate (List ℚ) → List (List ℚ) → List ℕ
behind_sides m sides cert points =
    ended_lines (certificate_lines (only m sides) cert ++ (point_lines m 0 points ++ codes "END" ∷ []))

abbrev counted : List ℕ → List ℕ → List ℕ
counted count behind = codes "INFEASIBLE" ++ 10 ∷ (codes "IIS " ++ count ++ 10 ∷ behind)

-- the text of sides that were found is `INFEASIBLE`, their count, their lines, and what is behind them
found_begins : (m : Model) (sides : List Side) (cert : Certificate (List ℚ)) (points : List (List ℚ)) →
    ended_lines (found_lines m sides cert points)
    ≡ counted (decimal (length sides)) (ended_lines (map (side_line m) sides) ++ behind_sides m sides cert points)
unfolding found_lines ended_lines
found_begins m sides cert points =
    let lines : List (List ℕ) = map (side_line m) sides in
    let shown : List (List ℕ) = certificate_lines (only m sides) cert in
    let all : List (List ℕ) = point_lines m 0 points in
    ap (λ (ls : List (List ℕ)).
    codes "INFEASIBLE" ++ 10 ∷ (codes "IIS " ++ ((decimal (length sides) ++ 10 ∷ []) ++ ended_lines ls)))
    (append_assoc (lines ++ shown) all (codes "END" ∷ []) ∙ append_assoc lines shown (all ++ codes "END" ∷ []))
    ∙ ap (λ (bytes : List ℕ).
    codes "INFEASIBLE" ++ 10 ∷ (codes "IIS " ++ ((decimal (length sides) ++ 10 ∷ []) ++ bytes)))
    (ended_append lines (shown ++ (all ++ codes "END" ∷ [])))
    ∙ ap (λ (bytes : List ℕ). codes "INFEASIBLE" ++ 10 ∷ (codes "IIS " ++ bytes))
    (append_assoc (decimal (length sides)) (10 ∷ [])
    (ended_lines lines ++ behind_sides m sides cert points))

-- where a set of sides is reached, a certificate shows that no point of the model is feasible
reached_shown : (m : Model) (sides : List Side) → IsReached m opening_budget sides → IsShown m known.Infeasible
reached_shown m sides r =
    answer_shown m opening_budget (outcome.Ended known.Infeasible r.certificate r.basis r.pivots) r.ends.may_answer

-- what `iis` writes of what may be found begins with the line of an answer that is shown of the model
found_answered : (m : Model) (found : ExactIis) (written : List ℕ) → MayFind m opening_budget found →
    written ≡ ended_lines (iis_lines m found) → IsAnswered m written
unfolding ended_lines found_lines reply_text
found_answered m (Found sides cert points) written may e =
    record {
      answer = reply.Known known.Infeasible;
      behind = codes "IIS " ++ decimal (length sides) ++ 10 ∷ (ended_lines (map (side_line m) sides) ++ behind_sides m sides cert points);
      line = e ∙ found_begins m sides cert points;
      shown = reached_shown m sides may.reached;
    }
found_answered m (Other end) written may e =
    record {
      answer = answer_of opening_budget end;
      behind = [];
      line = e ∙ append_assoc (end_words end) (10 ∷ []) [];
      shown = answer_shown m opening_budget end may.0.may_answer;
    }
found_answered m (Stopped end) written may e =
    record {
      answer = reply.Known known.Infeasible;
      behind = ended_lines ((codes "STOPPED " ++ end_words end) ∷ []);
      line = e;
      shown = reached_shown m may.sides may.reached;
    }

-- what `iis` writes of a model begins with the line of an answer that is shown of the model
out_answered : (m : Model) (written : List ℕ) → IisOut (Ok m) written → IsAnswered m written
out_answered m written out = found_answered m out.0 written out.1 out.2

-- ---- the sides

-- two texts are equal where they are equal behind the line `INFEASIBLE` and the word IIS
behind_iis : (x y : List ℕ) →
    codes "INFEASIBLE" ++ 10 ∷ (codes "IIS " ++ x) ≡ codes "INFEASIBLE" ++ 10 ∷ (codes "IIS " ++ y) → x ≡ y
behind_iis x y e = cc

module _ (m : Model) (h : IsModel m) (count behind : List ℕ) (no_feed : HasNo 10 count) where
  -- where the lines of sides that may be found are those of a count, they say so many sides of an irreducible set of
  -- the model
  sides_said : (sides : List Side) (cert : Certificate (List ℚ)) (points : List (List ℚ)) →
      MayFind m opening_budget (Found sides cert points) →
      ended_lines (found_lines m sides cert points) ≡ counted count behind → SaysSides m count behind
  sides_said sides cert points may e =
      let more : List ℕ = behind_sides m sides cert points in
      let lines : List ℕ = ended_lines (map (side_line m) sides) in
      let cut =
      cut_at 10 (decimal (length sides)) count (lines ++ more) behind (decimal_no_feed (length sides)) no_feed
      (behind_iis (decimal (length sides) ++ 10 ∷ (lines ++ more)) (count ++ 10 ∷ behind)
      (sym (found_begins m sides cert points) ∙ e))
      in
      record {
        sides = sides;
        more = more;
        counted = sym cut.0;
        listed = sym cut.1;
        irreducible = may.irreducible;
        no_others =
            λ others rest same are is. sides_read m h sides others more rest may.irreducible.present are same
            (cut.1 ∙ is);
      }

  -- the line of an end that is not infeasible is not the text of counted sides
  no_iis : (end : ExactSolveEnd) → IsElse end → end_words end ++ 10 ∷ [] ≡ counted count behind → ⊥
  unfolding reply_text
  no_iis (outcome.Ended (known.Optimal v) cert basis pivots) other e = apart 79 73 refl (ap first e)
  no_iis (outcome.Ended known.Infeasible cert basis pivots) other e = other
  no_iis (outcome.Ended known.Unbounded cert basis pivots) other e = apart 85 73 refl (ap first e)
  no_iis (outcome.Past p) other e = apart 80 73 refl (ap first e)
  no_iis outcome.Spent other e = apart 83 73 refl (ap first e)

  -- where the lines of what may be found are those of a count, they say so many sides of an irreducible set of the
  -- model
  found_says : (found : ExactIis) → MayFind m opening_budget found →
      ended_lines (iis_lines m found) ≡ counted count behind → SaysSides m count behind
  unfolding ended_lines
  found_says (Found sides cert points) may e = sides_said sides cert points may e
  found_says (Other end) may e = absurd (no_iis end may.1 (sym (append_assoc (end_words end) (10 ∷ []) []) ∙ e))
  found_says (Stopped end) may e = absurd (apart 83 73 refl (ap (λ t. get_or t 11 0) e))

-- ---- the laws

module _ (style : Style) (lines : List (Line (List ℕ))) (m : Model) (what : TextSaid) (written : List ℕ)
    (is : text_said style lines ≡ Some what) (out : IisOut what written) (spells : Spells style lines m) where
  whole : IisOut (Ok m) written
  whole =
      let same : what ≡ Ok m = same_said what (Ok m) (sym is ∙ spelled_said usual_limits style lines m spells) in
      subst (λ (w : TextSaid). IisOut w written) same out

  -- what `iis` writes of a text's model begins with the line of an answer shown of the model
  answered : IsAnswered m written
  answered = out_answered m written whole

  -- what `iis` writes of a text's model begins with the line of an answer that is true of the model
  pub iis_answer : (a : ExactReply) × (behind : List ℕ) × (written ≡ reply_text a ++ 10 ∷ behind)
      × IsTrueOf m a
  iis_answer = (answered.answer, answered.behind, answered.line, answer_holds m answered.answer answered.shown)

  -- where `iis` writes `OPTIMAL` and a text, the text reads as the model's optimal value
  pub iis_optimal : (text behind : List ℕ) → HasNoFeed text → written ≡ codes "OPTIMAL " ++ text ++ 10 ∷ behind →
      (v : ℚ) × (number_of text ≡ Is v) × IsOptimal m v
  iis_optimal text behind no_feed e =
      optimal_line m answered.answer text answered.behind behind answered.shown no_feed (sym answered.line ∙ e)

  -- where `iis` writes `INFEASIBLE`, the model is infeasible
  pub iis_infeasible : (behind : List ℕ) → written ≡ codes "INFEASIBLE" ++ 10 ∷ behind → IsInfeasible m
  iis_infeasible behind e =
      infeasible_line m answered.answer answered.behind behind answered.shown (sym answered.line ∙ e)

  -- where `iis` writes `UNBOUNDED`, the model is unbounded
  pub iis_unbounded : (behind : List ℕ) → written ≡ codes "UNBOUNDED" ++ 10 ∷ behind → IsUnbounded m
  iis_unbounded behind e =
      unbounded_line m answered.answer answered.behind behind answered.shown (sym answered.line ∙ e)

  -- where `iis` writes `INFEASIBLE`, and then IIS and a count, the lines behind say an irreducible set of so many sides
  -- of the model
  pub iis_sides : (count behind : List ℕ) → HasNoFeed count →
      written ≡ codes "INFEASIBLE" ++ 10 ∷ (codes "IIS " ++ count ++ 10 ∷ behind) → SaysSides m count behind
  iis_sides count behind no_feed e =
      found_says m (usual_from_within m (spelled_kept usual_limits style lines m spells)).0 count behind no_feed whole.0
      whole.1 (sym whole.2 ∙ e)
