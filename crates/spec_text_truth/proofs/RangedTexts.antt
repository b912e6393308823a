-- What `range` writes of a text that spells a model is true of the model.
--
-- `cut_at`: equal texts are equal before the first byte d of each, and behind it.
-- `printed_has_no`: a printed text has no byte of 32 or less.
-- `texts_said`: where the line of a range is made of three texts, these read as its two ends and its slope.
-- `range_is`: a range found at the limit of 127 bits has such numbers, and is the range of the number by definition.
use Rattle.std.proofs.Common.{◌≡◌, ◌≢◌, ◌≤◌, ℕ, true, List, [], ◌∷◌, ◌++◌, Option}
use Rattle.std.proofs.Common.{Some, None, Result, Ok, Err, refl, sym, ◌∙◌, ap, subst, append_assoc, arith}
use Rattle.std.specs.Prelude.{All, codes, nat_le}
use Rattle.std.specs.List.{list_all}
use Rattle.std.proofs.lemmas.List.Elements.{All-nil, All-cons, All-head, All-tail}
use Rattle.std.proofs.lemmas.Bool.{and_parts}
use borrow.Author.Tests.{leb-true}
use Rattle.spec_text.specs.declared.line.Line.{Line}
use Rattle.spec_exact.specs.Fraction.{ℚ}
use Rattle.spec_exact.specs.declared.past.Past.{Past}
use Rattle.spec_exact.specs.Narrow.{IsNarrow, number_limit}
use Rattle.spec_model.specs.Model.{Model, Name}
use Rattle.spec_model.specs.Truth.{IsOptimal, IsInfeasible, IsUnbounded}
use Rattle.spec_model.specs.Kept.{is_printable, usual_limits}
use Rattle.spec_model.proofs.NamePlaces.{column_inside, row_inside}
use Rattle.spec_mps.specs.declared.style.Style.{Style}
use Rattle.spec_mps.specs.NumberText.{Is, number_of}
use Rattle.spec_mps.specs.NumberWritten.{number_text}
use Rattle.spec_mps.specs.Steps.{Spells}
use Rattle.spec_mps.proofs.SpelledKept.{spelled_kept}
use Rattle.spec_mps.proofs.WrittenNumbers.{number_word}
use Rattle.spec_check.specs.declared.certificate.Known.TheVariants as known
use Rattle.spec_check.specs.declared.solve_end.SolveEnd.TheVariants as outcome
use Rattle.spec_pivot.specs.declared.status.Status.{Status}
use Rattle.spec_simplex.specs.declared.ends.FormFault.{FormFault}
use Rattle.spec_simplex.specs.declared.ends.StartStop.{StartStop}
use Rattle.spec_simplex.specs.declared.ends.StartStop.TheVariants as stop
use Rattle.spec_simplex.specs.Form.{Form, form_of}
use Rattle.spec_runs.specs.Cold.{ExactSolveEnd}
use Rattle.spec_runs.specs.Solve.{SolveEnd}
use Rattle.spec_solve.specs.Answers.{IsSolved, MayAnswer}
use Rattle.spec_solve.proofs.NarrowStart.{IsNarrowModel}
use Rattle.spec_solve.proofs.NarrowSteps.{NarrowBound}
use Rattle.spec_range.specs.declared.range.Range.{Range}
use Rattle.spec_range.specs.Span.{Keeps, IsRange}
use Rattle.spec_range.proofs.CostRange.{cost_range_is}
use Rattle.spec_range.proofs.SideRange.{side_range_is}
use Rattle.spec_program.specs.declared.command_line.Moved.{Moved}
use Rattle.spec_program.specs.declared.command_line.Moved.TheVariants.{Cost, RightSide}
use Rattle.spec_commands.specs.RangeOut.{place_by, range_of, end_text, range_line, ranged_text, based_text, range_text}
use Rattle.spec_commands.specs.RangeOut.{range_lines, RangedOut, PlaceOut, RangeOut}
use Rattle.spec_commands.proofs.OptimalBasis.{solved_keeps}
use Rattle.spec_commands.proofs.NarrowRanges.{NarrowRange, cost_range_narrow, side_range_narrow}
use Rattle.spec_server.specs.declared.asks.Reply.TheVariants as reply
use Rattle.spec_server.specs.declared.asks.Refusal.TheVariants as refusal
use Rattle.spec_server.specs.Machine.{ExactReply, opening_budget, answer_of}
use Rattle.spec_server.specs.Output.{check_line, reply_text}
use Rattle.spec_server.specs.TextSaid.{TextSaid, text_said}
use Rattle.spec_text_truth.specs.SaidRange.{number_at, with_number, SaysEnd, SaysRange}
use Rattle.spec_truth.specs.TrueAnswer.{IsTrueOf}
use Rattle.spec_truth.proofs.Shown.{IsShown, IsShownBy, answer_shown, answer_holds, shown_holds, value_fits}
use Rattle.spec_text_truth.proofs.SolvedTexts.{IsAnswered}
use Rattle.spec_text_truth.proofs.TextLemmas.{spelled_said}
use Rattle.spec_truth.proofs.AnswerLines.{read_back, first, apart, optimal_line, infeasible_line}
use Rattle.spec_text_truth.specs.TrueOutput.{HasNoFeed}
use Rattle.spec_truth.proofs.AnswerLines.{unbounded_line}

-- ---- texts up to the first byte of a kind

abbrev pub HasNo : ℕ → List ℕ → Type 0
HasNo d text = All (λ b. b ≢ d) text

pub cut_at : (d : ℕ) (a b x y : List ℕ) → HasNo d a → HasNo d b → a ++ d ∷ x ≡ b ++ d ∷ y → (a ≡ b) × (x ≡ y)
cut_at d [] [] x y h k e = let rest : x ≡ y = cc in (refl, rest)
cut_at d [] (c ∷ b) x y h k e = absurd (All-head (λ b. b ≢ d) c b k (let z : d ≡ c = cc in sym z))
cut_at d (c ∷ a) [] x y h k e = absurd (All-head (λ b. b ≢ d) c a h (let z : c ≡ d = cc in z))
cut_at d (c ∷ a) (f ∷ b) x y h k e =
    let head : c ≡ f = cc in
    let more : a ++ d ∷ x ≡ b ++ d ∷ y = cc in
    let rest = cut_at d a b x y (All-tail (λ b. b ≢ d) c a h) (All-tail (λ b. b ≢ d) f b k) more in
    let front : a ≡ b = rest.0 in
    let whole : ◌≡◌ {A = List ℕ} (c ∷ a) (f ∷ b) = cc in
    (whole, rest.1)

pub printed_has_no : (d : ℕ) → d ≤ 32 → (w : List ℕ) → list_all is_printable w ≡ true → HasNo d w
printed_has_no d l [] h = All-nil (λ b. b ≢ d)
printed_has_no d l (b ∷ w) h =
    let p = and_parts (is_printable b) (list_all is_printable w) h in
    let q = and_parts (nat_le 33 b) (nat_le b 126) p.0 in
    let low : 33 ≤ b = leb-true 33 b q.0 in
    All-cons (λ x. x ≢ d) b w (λ e. omega (arith, e, low, l)) (printed_has_no d l w p.1)

-- the text of a number of at most 127 bits has no byte d, where d is at most 32
number_has_no : (d : ℕ) → d ≤ 32 → (v : ℚ) → IsNarrow v → HasNo d (number_text v)
number_has_no d l v h = printed_has_no d l (number_text v) (number_word v h.top h.bottom).printable

-- the text of an end of at most 127 bits has no byte d, where d is at most 32
end_has_no : (d : ℕ) → d ≤ 32 → (end : Option ℚ) → NarrowBound end → HasNo d (end_text end)
end_has_no d l None h = printed_has_no d l (codes "NONE") refl
end_has_no d l (Some v) h = number_has_no d l v h

-- ---- the texts of a range

-- the text of an end of at most 127 bits says the end
end_said : (end : Option ℚ) (text : List ℕ) → NarrowBound end → end_text end ≡ text → SaysEnd text end
end_said None text h e = sym e
end_said (Some v) text h e = ap number_of (sym e) ∙ read_back v h

pub record SaysNumbers (r : Range ℚ) (low high slope : List ℕ) : Type 0 where
  pub says_low : SaysEnd low r.ends.low
  pub says_high : SaysEnd high r.ends.high
  pub says_slope : number_of slope ≡ Is r.slope

-- a line of a range, byte by byte, and what stands behind it
abbrev pub line_with : List ℕ → List ℕ → List ℕ → List ℕ → List ℕ
line_with low high slope behind = codes "RANGE " ++ low ++ codes " " ++ high ++ codes " SLOPE " ++ slope ++ 10 ∷ behind

-- what stands behind its word
abbrev numbers_with : List ℕ → List ℕ → List ℕ → List ℕ → List ℕ
numbers_with low high slope behind = low ++ codes " " ++ high ++ codes " SLOPE " ++ slope ++ 10 ∷ behind

-- the text of two ends, a slope and more is the same, grouped at its two spaces
grouped : (low high slope behind : List ℕ) →
    numbers_with low high slope behind ≡ low ++ 32 ∷ (high ++ 32 ∷ (codes "SLOPE " ++ (slope ++ 10 ∷ behind)))
grouped low high slope behind =
    append_assoc (low ++ codes " " ++ high ++ codes " SLOPE ") slope (10 ∷ behind)
    ∙ append_assoc (low ++ codes " " ++ high) (codes " SLOPE ") (slope ++ 10 ∷ behind)
    ∙ append_assoc (low ++ codes " ") high (codes " SLOPE " ++ (slope ++ 10 ∷ behind))
    ∙ append_assoc low (codes " ") (high ++ (codes " SLOPE " ++ (slope ++ 10 ∷ behind)))

-- two texts are equal where they are equal behind the word RANGE
behind_word : (x y : List ℕ) → codes "RANGE " ++ x ≡ codes "RANGE " ++ y → x ≡ y
behind_word x y e = cc

-- two texts are equal where they are equal behind the word SLOPE
behind_slope : (x y : List ℕ) → codes "SLOPE " ++ x ≡ codes "SLOPE " ++ y → x ≡ y
behind_slope x y e = cc

-- behind the line of a range, whatever stands behind that
pub texts_said : (r : Range ℚ) (low high slope more behind : List ℕ) → NarrowRange r → HasNo 32 low → HasNo 32 high →
    HasNo 10 slope →
    line_with (end_text r.ends.low) (end_text r.ends.high) (number_text r.slope) more ≡ line_with low high slope behind →
    SaysNumbers r low high slope
texts_said r low high slope more behind n in_low in_high in_slope e =
    let numbers =
    behind_word (numbers_with (end_text r.ends.low) (end_text r.ends.high) (number_text r.slope) more)
    (numbers_with low high slope behind) e
    in
    let one =
    cut_at 32 (end_text r.ends.low) low
    (end_text r.ends.high ++ 32 ∷ (codes "SLOPE " ++ (number_text r.slope ++ 10 ∷ more)))
    (high ++ 32 ∷ (codes "SLOPE " ++ (slope ++ 10 ∷ behind)))
    (end_has_no 32 (omega arith) r.ends.low n.ends.low) in_low
    (sym (grouped (end_text r.ends.low) (end_text r.ends.high) (number_text r.slope) more) ∙ numbers
    ∙ grouped low high slope behind)
    in
    let two =
    cut_at 32 (end_text r.ends.high) high (codes "SLOPE " ++ (number_text r.slope ++ 10 ∷ more))
    (codes "SLOPE " ++ (slope ++ 10 ∷ behind)) (end_has_no 32 (omega arith) r.ends.high n.ends.high) in_high one.1
    in
    let three =
    cut_at 10 (number_text r.slope) slope more behind (number_has_no 10 (omega arith) r.slope n.slope) in_slope
    (behind_slope (number_text r.slope ++ 10 ∷ more) (slope ++ 10 ∷ behind) two.1)
    in
    record {
      says_low = end_said r.ends.low low n.ends.low one.0;
      says_high = end_said r.ends.high high n.ends.high two.0;
      says_slope = ap number_of (sym three.0) ∙ read_back r.slope n.slope;
    }

-- where the line of a range is that of three texts, the texts say its ends and its slope
line_said : (r : Range ℚ) (low high slope behind : List ℕ) → NarrowRange r → HasNo 32 low → HasNo 32 high → HasNo 10 slope →
    range_line r ≡ line_with low high slope behind → SaysNumbers r low high slope
unfolding range_line
line_said r low high slope behind n in_low in_high in_slope e =
    texts_said r low high slope [] behind n in_low in_high in_slope e

-- the line of a refused operation begins with the letter P
past_first : (p : Past ℚ) → first (check_line (reply.Past p)) ≡ 80
unfolding check_line reply_text
past_first p = refl

-- ---- the range

-- what a range at the limit is: narrow, and the whole span
pub range_is : (moved : Moved) (name : Name) (m : Model) (f : Form) (basis : List Status) (at : ℕ) (v : ℚ) (r : Range ℚ) →
    IsNarrowModel m → place_by moved m name ≡ Some at → form_of (Some number_limit) m ≡ Ok f → Keeps m basis →
    IsOptimal m v → range_of moved (Some number_limit) m f basis at ≡ Ok r →
    NarrowRange r × IsRange (with_number moved m at) basis (number_at moved m at) v r
range_is Cost name m f basis at v r n place is keeps optimal e =
    let l = column_inside m name at place in (
      cost_range_narrow m f basis at r n is l e,
      cost_range_is (Some number_limit) m f basis at r v is l keeps optimal e,
    )
range_is RightSide name m f basis at v r n place is keeps optimal e = (
  side_range_narrow m f basis at r n is e,
  side_range_is (Some number_limit) m f basis at r v is (row_inside m name at place) keeps optimal e,
)

module _ (moved : Moved) (name : Name) (m : Model) (n : IsNarrowModel m) (at : ℕ) (place : place_by moved m name ≡ Some at)
    (value low high slope behind : List ℕ) (no_feed : HasNo 10 value) (in_low : HasNo 32 low) (in_high : HasNo 32 high)
    (in_slope : HasNo 10 slope) where
  module _ (basis : List Status) (v : ℚ) (keeps : Keeps m basis) (optimal : IsOptimal m v)
      (says : number_of value ≡ Is v) where
    -- where the text of a range by a basis is a line of three texts, these are the range of the number
    ranged_says : (f : Form) → form_of (Some number_limit) m ≡ Ok f → (o : Result (Range ℚ) (StartStop ℚ)) →
        range_of moved (Some number_limit) m f basis at ≡ o → ranged_text o ≡ line_with low high slope behind →
        SaysRange moved name m value low high slope
    ranged_says f is (Ok r) q e =
        let t = range_is moved name m f basis at v r n place is keeps optimal q in
        let s = line_said r low high slope behind t.0 in_low in_high in_slope e in
        record {
          at = at;
          named = place;
          optimum = v;
          says_value = says;
          is_optimal = optimal;
          basis = basis;
          keeps = keeps;
          range = r;
          says_low = s.says_low;
          says_high = s.says_high;
          says_slope = s.says_slope;
          is_range = t.1;
        }
    ranged_says f is (Err (stop.Past p)) q e = absurd (apart 80 82 refl (sym (past_first p) ∙ ap first e))
    ranged_says f is (Err stop.Singular) q e = absurd (apart 0 82 refl (ap first e))

    -- where the text of the range by a basis, if the model has a form, is a line of three texts, these are the range of
    -- the number
    based_says : (o : Result Form (FormFault ℚ)) → form_of (Some number_limit) m ≡ o →
        based_text moved m basis at o ≡ line_with low high slope behind → SaysRange moved name m value low high slope
    based_says (Ok f) is e = ranged_says f is (range_of moved (Some number_limit) m f basis at) refl e
    based_says (Err why) is e = absurd (apart 0 82 refl (ap first e))

  abbrev shown_line : List ℕ
  shown_line = codes "OPTIMAL " ++ value ++ 10 ∷ line_with low high slope behind

  -- where the answer's line of a solve's end and the text of its range are the line that was shown, the texts in that
  -- line say the range of the number
  end_says : (solved : SolveEnd) → IsSolved m opening_budget None solved → (end : ExactSolveEnd) → solved.end ≡ end →
      MayAnswer m opening_budget end →
      reply_text (answer_of opening_budget end) ++ 10 ∷ range_text moved m at end ≡ shown_line →
      SaysRange moved name m value low high slope
  unfolding reply_text
  end_says solved is (outcome.Ended (known.Optimal v) cert (Some basis) pivots) q may e =
      let shown : IsShown m (known.Optimal v) = answer_shown m opening_budget (outcome.Ended (known.Optimal v) cert (Some basis) pivots) may in
      let narrow = value_fits m v shown in
      let more : number_text v ++ 10 ∷ based_text moved m basis at (form_of (Some number_limit) m)
      ≡ value ++ 10 ∷ line_with low high slope behind = cc in
      let two = cut_at 10 (number_text v) value _ _ (number_has_no 10 (omega arith) v narrow) no_feed more in
      based_says basis v (solved_keeps m opening_budget solved (known.Optimal v) cert basis pivots is q)
      (shown_holds m (known.Optimal v) shown) (ap number_of (sym two.0) ∙ read_back v narrow)
      (form_of (Some number_limit) m) refl two.1
  end_says solved is (outcome.Ended (known.Optimal v) cert None pivots) q may e =
      let shown : IsShown m (known.Optimal v) = answer_shown m opening_budget (outcome.Ended (known.Optimal v) cert None pivots) may in
      let more : number_text v ++ 10 ∷ [] ≡ value ++ 10 ∷ line_with low high slope behind = cc in
      let two = cut_at 10 (number_text v) value _ _ (number_has_no 10 (omega arith) v (value_fits m v shown)) no_feed more in
      absurd (apart 0 82 refl (ap first two.1))
  end_says solved is (outcome.Ended known.Infeasible cert basis pivots) q may e = absurd (apart 73 79 refl (ap first e))
  end_says solved is (outcome.Ended known.Unbounded cert basis pivots) q may e = absurd (apart 85 79 refl (ap first e))
  end_says solved is (outcome.Past p) q may e = absurd (apart 80 79 refl (ap first e))
  end_says solved is outcome.Spent q may e = absurd (apart 83 79 refl (ap first e))

-- ---- what is written

-- what `range` writes of the end of a solve is the line of its answer and then the text of the range
range_begins : (moved : Moved) (m : Model) (at : ℕ) (solved : ExactSolveEnd) →
    range_lines moved m at solved ≡ reply_text (answer_of opening_budget solved) ++ 10 ∷ range_text moved m at solved
unfolding range_lines check_line
range_begins moved m at solved =
    append_assoc (reply_text (answer_of opening_budget solved)) (10 ∷ []) (range_text moved m at solved)

-- what `range` writes of a model begins with the line of an answer that is shown of the model
out_answered : (moved : Moved) (m : Model) (at : ℕ) (written : List ℕ) → RangedOut moved m at written →
    IsAnswered m written
out_answered moved m at written out =
    record {
      answer = answer_of opening_budget out.0.end;
      behind = range_text moved m at out.0.end;
      line = out.2 ∙ range_begins moved m at out.0.end;
      shown = answer_shown m opening_budget out.0.end out.1.may_answer;
    }

-- what is written of the model that a text spells, by where the name stands
module _ (moved : Moved) (name : Name) (m : Model) (written : List ℕ) where
  abbrev Out : Option ℕ → Type 0
  Out place = PlaceOut moved name m place written

  out_of : (style : Style) (lines : List (Line (List ℕ))) (what : TextSaid) → text_said style lines ≡ Some what →
      RangeOut moved name what written → Spells style lines m → Out (place_by moved m name)
  out_of style lines what is out spells =
      let said : ◌≡◌ {A = Option TextSaid} (Some what) (Some (Ok m)) = sym is ∙ spelled_said usual_limits style lines m spells in
      let same : what ≡ Ok m = cc in
      subst (λ (w : TextSaid). RangeOut moved name w written) same out

  -- where the name has a place, what is written is what `range` may write there
  named_out : (at : ℕ) → place_by moved m name ≡ Some at → Out (place_by moved m name) → RangedOut moved m at written
  named_out at e out = subst (λ (place : Option ℕ). Out place) e out

  -- the line of a name that nothing has begins with the letter E
  no_name_first : first (check_line (reply.Refused (refusal.Name name))) ≡ 69
  unfolding check_line reply_text
  no_name_first = refl

  -- where what was written begins with another letter than E, the name has a place, and the bytes are those of a range
  -- there
  answered_by : (letter : ℕ) → (69 ≡ letter → ⊥) → first written ≡ letter → (place : Option ℕ) → Out place →
      (at : ℕ) × (place ≡ Some at) × RangedOut moved m at written
  answered_by letter other e None out = absurd (other (sym no_name_first ∙ ap first (sym out) ∙ e))
  answered_by letter other e (Some at) out = (at, refl, out)

  -- where what was written is the line of an unknown name, the name has no place
  named_by : written ≡ check_line (reply.Refused (refusal.Name name)) → (place : Option ℕ) → Out place → place ≡ None
  unfolding reply_text
  named_by e None out = refl
  named_by e (Some at) out =
      let r = out_answered moved m at written out in
      absurd (no_letter r.answer r.behind r.shown (sym (ap first r.line) ∙ ap first e ∙ no_name_first))
    where
      no_letter : (a : ExactReply) (behind : List ℕ) → IsShownBy m a → first (reply_text a ++ 10 ∷ behind) ≡ 69 → ⊥
      no_letter (reply.Known (known.Optimal v)) behind s h = apart 79 69 refl h
      no_letter (reply.Known known.Infeasible) behind s h = apart 73 69 refl h
      no_letter (reply.Known known.Unbounded) behind s h = apart 85 69 refl h
      no_letter (reply.Past p) behind s h = apart 80 69 refl h
      no_letter (reply.Spent budget) behind s h = apart 83 69 refl h
      no_letter replied behind s h = absurd s

-- ---- the laws

module _ (style : Style) (lines : List (Line (List ℕ))) (m : Model) (moved : Moved) (name : Name) (what : TextSaid)
    (written : List ℕ) (is : text_said style lines ≡ Some what) (out : RangeOut moved name what written)
    (spells : Spells style lines m) where
  whole : PlaceOut moved name m (place_by moved m name) written
  whole = out_of moved name m written style lines what is out spells

  -- where `range` writes that the name is unknown, nothing of the model has the name
  pub unknown_is : written ≡ check_line (reply.Refused (refusal.Name name)) → place_by moved m name ≡ None
  unknown_is e = named_by moved name m written e (place_by moved m name) whole

  -- where the name has a place, what `range` writes begins with the line of an answer that is true of the model
  pub ranged_answer : (at : ℕ) → place_by moved m name ≡ Some at →
      (a : ExactReply) × (behind : List ℕ) × (written ≡ reply_text a ++ 10 ∷ behind) × IsTrueOf m a
  ranged_answer at e =
      let r = out_answered moved m at written (named_out moved name m written at e whole) in
      (r.answer, r.behind, r.line, answer_holds m r.answer r.shown)

  -- where what was written begins with this letter, which is not E, it begins with the line of an answer shown of the
  -- model
  answered : (letter : ℕ) → (69 ≡ letter → ⊥) → first written ≡ letter → IsAnswered m written
  answered letter other e =
      let p = answered_by moved name m written letter other e (place_by moved m name) whole in
      out_answered moved m p.0 written p.2

  -- where `range` writes `OPTIMAL` and a text, the text reads as the model's optimal value
  pub ranged_optimal : (text behind : List ℕ) → HasNoFeed text → written ≡ codes "OPTIMAL " ++ text ++ 10 ∷ behind →
      (v : ℚ) × (number_of text ≡ Is v) × IsOptimal m v
  ranged_optimal text behind no_feed e =
      let r = answered 79 (apart 69 79 refl) (ap first e) in
      optimal_line m r.answer text r.behind behind r.shown no_feed (sym r.line ∙ e)

  -- where `range` writes `INFEASIBLE`, the model is infeasible
  pub ranged_infeasible : (behind : List ℕ) → written ≡ codes "INFEASIBLE" ++ 10 ∷ behind → IsInfeasible m
  ranged_infeasible behind e =
      let r = answered 73 (apart 69 73 refl) (ap first e) in
      infeasible_line m r.answer r.behind behind r.shown (sym r.line ∙ e)

  -- where `range` writes `UNBOUNDED`, the model is unbounded
  pub ranged_unbounded : (behind : List ℕ) → written ≡ codes "UNBOUNDED" ++ 10 ∷ behind → IsUnbounded m
  ranged_unbounded behind e =
      let r = answered 85 (apart 69 85 refl) (ap first e) in
      unbounded_line m r.answer r.behind behind r.shown (sym r.line ∙ e)

  -- where `range` writes `OPTIMAL` with a value, and then a range's line of three texts, these are the range of the
  -- number by a basis that keeps the model
  pub ranged_range : (value low high slope behind : List ℕ) → HasNo 10 value → HasNo 32 low → HasNo 32 high →
      HasNo 10 slope → written ≡ codes "OPTIMAL " ++ value ++ 10 ∷ line_with low high slope behind →
      SaysRange moved name m value low high slope
  ranged_range value low high slope behind no_feed in_low in_high in_slope e =
      let p = answered_by moved name m written 79 (apart 69 79 refl) (ap first e) (place_by moved m name) whole in
      let kept = spelled_kept usual_limits style lines m spells in
      let o = p.2 in
      end_says moved name m (record { rows = kept.narrow_rows; columns = kept.narrow_columns }) p.0 p.1 value low high
      slope behind no_feed in_low in_high in_slope o.0 o.1 o.0.end refl o.1.may_answer
      (sym (range_begins moved m p.0 o.0.end) ∙ sym o.2 ∙ e)
