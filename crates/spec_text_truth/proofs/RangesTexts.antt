-- What `range all` writes of a text that spells a model is true of the model.
use Rattle.std.proofs.Common.{◌≡◌, ◌≢◌, ℕ, zero, suc, ◌<◌, true, List, [], ◌∷◌, ◌++◌, ◌⊎◌, inl, inr, Option, Some, None}
use Rattle.std.proofs.Common.{Result, Ok, Err, refl, sym, ◌∙◌, ap, ap₂, subst, append_assoc, arith}
use Rattle.std.specs.Prelude.{All, codes}
use Rattle.std.specs.List.{list_all}
use Rattle.std.proofs.lemmas.Grind.{flat_map-append}
use Rattle.std.proofs.lemmas.List.Elements.{All-nil, All-head, All-tail, All-append}
use Rattle.spec_text.specs.declared.line.Line.{Line}
use Rattle.spec_exact.specs.Fraction.{ℚ}
use Rattle.spec_exact.specs.declared.past.Past.{Past}
use Rattle.spec_exact.specs.Narrow.{number_limit}
use Rattle.spec_exact.specs.Run.{made}
use Rattle.spec_exact.proofs.Results.{ok_not_err}
use Rattle.spec_exact.proofs.RunsInOrder.{All-made}
use Rattle.spec_model.specs.Model.{Model, Name, no_row, no_column, width, height, row, column}
use Rattle.spec_model.specs.Truth.{IsOptimal, IsInfeasible, IsUnbounded}
use Rattle.spec_model.specs.Kept.{IsModel, is_printable, usual_limits}
use Rattle.spec_model.proofs.NamePlaces.{row_at, column_at}
use Rattle.spec_model.proofs.KeptModels.{usual_from_within}
use Rattle.spec_mps.specs.declared.style.Style.{Style}
use Rattle.spec_mps.specs.NumberText.{Is, number_of}
use Rattle.spec_mps.specs.NumberWritten.{number_text}
use Rattle.spec_mps.specs.Steps.{Spells}
use Rattle.spec_mps.proofs.SpelledKept.{spelled_kept}
use Rattle.spec_mps.proofs.WrittenNames.{name_word, row_name_word}
use Rattle.spec_check.specs.declared.certificate.Known.TheVariants as known
use Rattle.spec_check.specs.declared.solve_end.SolveEnd.TheVariants as outcome
use Rattle.spec_pivot.specs.declared.status.Status.{Status}
use Rattle.spec_simplex.specs.declared.ends.FormFault.{FormFault}
use Rattle.spec_simplex.specs.declared.ends.StartStop.{StartStop}
use Rattle.spec_simplex.specs.declared.ends.StartStop.TheVariants as stop
use Rattle.spec_simplex.specs.Form.{Form, form_of}
use Rattle.spec_runs.specs.Cold.{ExactSolveEnd}
use Rattle.spec_runs.specs.Solve.{SolveEnd}
use Rattle.spec_solve.specs.Answers.{IsSolved, MayAnswer}
use Rattle.spec_solve.proofs.NarrowStart.{IsNarrowModel}
use Rattle.spec_range.specs.declared.range.Range.{Range}
use Rattle.spec_range.specs.Span.{Keeps}
use Rattle.spec_range.proofs.Limits.{cost_gives, side_gives}
use Rattle.spec_program.specs.declared.command_line.Moved.{Moved}
use Rattle.spec_program.specs.declared.command_line.Moved.TheVariants.{Cost, RightSide}
use Rattle.spec_commands.specs.RangeOut.{place_by, range_of, end_text, range_line, ranged_text}
use Rattle.spec_commands.specs.RangesOut.{number_words, name_by, number_line, number_lines, ranges_from, ranges_text}
use Rattle.spec_commands.specs.RangesOut.{ranges_lines, RangesOut}
use Rattle.spec_commands.proofs.OptimalBasis.{solved_keeps}
use Rattle.spec_server.specs.Machine.{ExactReply, opening_budget, answer_of}
use Rattle.spec_server.specs.Output.{check_line, reply_text, past_text, ended_lines}
use Rattle.spec_server.specs.TextSaid.{TextSaid, text_said}
use Rattle.spec_server.proofs.Output.{ended_append}
use Rattle.spec_text_truth.specs.SaidRange.{SaysRange}
use Rattle.spec_text_truth.specs.TrueOutput.{HasNoFeed}
use Rattle.spec_truth.specs.TrueAnswer.{IsTrueOf}
use Rattle.spec_truth.proofs.Shown.{IsShown, answer_shown, answer_holds, shown_holds, value_fits}
use Rattle.spec_truth.proofs.AnswerLines.{read_back, first, apart, optimal_line, infeasible_line, unbounded_line}
use Rattle.spec_text_truth.proofs.SolvedTexts.{IsAnswered, same_said}
use Rattle.spec_text_truth.proofs.TextLemmas.{spelled_said}
use Rattle.spec_text_truth.proofs.PlainText.{tested_no_feed, both_no_feed}
use Rattle.spec_text_truth.proofs.TrueLines.{fraction_no_feed, past_no_feed}
use Rattle.spec_text_truth.proofs.RangedTexts.{HasNo, cut_at, printed_has_no, line_with, texts_said, range_is}
use Rattle.spec_text_truth.proofs.SidesTexts.{ended_more}

-- ---- whole lines, and what stands behind some of them

-- the text of no lines is empty
ended_nil : ended_lines [] ≡ []
unfolding ended_lines
ended_nil = refl

-- the text of lines is the first line, a line feed, and the text of the other lines
ended_cons : (line : List ℕ) (lines : List (List ℕ)) → ended_lines (line ∷ lines) ≡ line ++ 10 ∷ ended_lines lines
unfolding ended_lines
ended_cons line lines = append_assoc line (10 ∷ []) (ended_lines lines)

-- a text that is not empty
abbrev IsSome : List ℕ → Type 0
IsSome text = text ≡ [] → ⊥

-- a text that is not empty does not end an empty text
no_text : (before text : List ℕ) → IsSome text → [] ≡ before ++ text → ⊥
no_text [] text some e = some (sym e)
no_text (b ∷ before) text some e = let no : ◌≡◌ {A = List ℕ} [] (b ∷ (before ++ text)) = e in cc

-- a text that begins with a line feed is not empty
fed_some : (text : List ℕ) → IsSome (10 ∷ text)
fed_some text e = cc

-- a line feed, whole lines and then a text are some bytes, a line feed and then the text
fed : (before : List (List ℕ)) (text : List ℕ) →
    (front : List ℕ) × (10 ∷ (ended_lines before ++ text) ≡ front ++ 10 ∷ text)
unfolding ended_lines
fed [] text = ([], refl)
fed (line ∷ before) text =
    let rest = fed before text in (
      10 ∷ (line ++ rest.0),
      ap (λ bs. 10 ∷ bs) (ended_more line before text ∙ ap (λ bs. line ++ bs) rest.1 ∙ sym (append_assoc line rest.0 (10 ∷ text))),
    )

module _ (P : List ℕ → Type 0) where
  -- it begins with a line of these
  record Begins (text : List ℕ) : Type 0 where
    line : List ℕ
    more : List ℕ
    holds : P line
    is : text ≡ line ++ 10 ∷ more

  module _ (plain : (line : List ℕ) → P line → HasNo 10 line) where
    -- where a line and more lines are some bytes, a line feed and then a text that is not empty, the text begins with
    -- one of these lines
    behind_feed : (line : List ℕ) (lines : List (List ℕ)) (before text : List ℕ) → HasNo 10 line → All P lines →
        IsSome text → line ++ 10 ∷ ended_lines lines ≡ before ++ 10 ∷ text → Begins text
    behind_feed [] [] [] text h all some e =
        let same : ended_lines [] ≡ text = cc in absurd (some (sym same ∙ ended_nil))
    behind_feed [] (next ∷ lines) [] text h all some e =
        let same : ended_lines (next ∷ lines) ≡ text = cc in
        record {
          line = next;
          more = ended_lines lines;
          holds = All-head P next lines all;
          is = sym same ∙ ended_cons next lines;
        }
    behind_feed [] [] (b ∷ before) text h all some e =
        let same : ended_lines [] ≡ before ++ 10 ∷ text = cc in
        absurd (no_text before (10 ∷ text) (fed_some text) (sym ended_nil ∙ same))
    behind_feed [] (next ∷ lines) (b ∷ before) text h all some e =
        let same : ended_lines (next ∷ lines) ≡ before ++ 10 ∷ text = cc in
        behind_feed next lines before text (plain next (All-head P next lines all)) (All-tail P next lines all) some
        (sym (ended_cons next lines) ∙ same)
    behind_feed (c ∷ line) lines [] text h all some e =
        absurd (All-head (λ b. b ≢ 10) c line h (let z : c ≡ 10 = cc in z))
    behind_feed (c ∷ line) lines (b ∷ before) text h all some e =
        let same : line ++ 10 ∷ ended_lines lines ≡ before ++ 10 ∷ text = cc in
        behind_feed line lines before text (All-tail (λ b. b ≢ 10) c line h) all some same

    -- where lines are other lines and then a text that is not empty, the text begins with one of the lines
    behind_lines : (lines before : List (List ℕ)) (text : List ℕ) → All P lines → IsSome text →
        ended_lines lines ≡ ended_lines before ++ text → Begins text
    behind_lines lines before text all some e =
        let front = fed before text in
        behind_feed [] lines front.0 text (All-nil (λ b. b ≢ 10)) all some (ap (λ bs. 10 ∷ bs) e ∙ front.1)

-- ---- the line of a number

-- without its line feed
abbrev bare : Result (Range ℚ) (StartStop ℚ) → List ℕ
bare (Ok r) =
    codes "RANGE " ++ end_text r.ends.low ++ codes " " ++ end_text r.ends.high ++ codes " SLOPE " ++ number_text r.slope
bare (Err (stop.Past p)) = past_text p
bare (Err stop.Singular) = []

-- what is written of a range, unless the basis is singular, is a line and its line feed
bare_is : (o : Result (Range ℚ) (StartStop ℚ)) → (o ≡ Err stop.Singular → ⊥) → ranged_text o ≡ bare o ++ 10 ∷ []
unfolding range_line check_line reply_text
bare_is (Ok r) other = refl
bare_is (Err (stop.Past p)) other = refl
bare_is (Err stop.Singular) other = absurd (other refl)

-- the text of an end of a range has no line feed
end_no_feed : (end : Option ℚ) → HasNo 10 (end_text end)
end_no_feed None = tested_no_feed (codes "NONE") refl
end_no_feed (Some v) = fraction_no_feed v

-- the line of a range has no line feed in it
bare_no_feed : (o : Result (Range ℚ) (StartStop ℚ)) → HasNo 10 (bare o)
bare_no_feed (Ok r) =
    let low : List ℕ = end_text r.ends.low in
    let high : List ℕ = end_text r.ends.high in
    both_no_feed (codes "RANGE " ++ low ++ codes " " ++ high ++ codes " SLOPE ") (number_text r.slope)
    (both_no_feed (codes "RANGE " ++ low ++ codes " " ++ high) (codes " SLOPE ")
    (both_no_feed (codes "RANGE " ++ low ++ codes " ") high
    (both_no_feed (codes "RANGE " ++ low) (codes " ")
    (both_no_feed (codes "RANGE ") low (tested_no_feed (codes "RANGE ") refl) (end_no_feed r.ends.low))
    (tested_no_feed (codes " ") refl))
    (end_no_feed r.ends.high))
    (tested_no_feed (codes " SLOPE ") refl))
    (fraction_no_feed r.slope)
bare_no_feed (Err (stop.Past p)) = past_no_feed p
bare_no_feed (Err stop.Singular) = All-nil (λ b. b ≢ 10)

-- where a name has no line feed, the words of the number with this name have none
words_no_feed : (moved : Moved) (name : Name) → HasNo 10 name → HasNo 10 (number_words moved name)
words_no_feed Cost name h =
    both_no_feed (codes "cost " ++ name) (codes " ") (both_no_feed (codes "cost ") name (tested_no_feed (codes "cost ") refl) h)
    (tested_no_feed (codes " ") refl)
words_no_feed RightSide name h =
    both_no_feed (codes "rhs " ++ name) (codes " ") (both_no_feed (codes "rhs ") name (tested_no_feed (codes "rhs ") refl) h)
    (tested_no_feed (codes " ") refl)

-- a text that begins with the words of a number is not empty
words_some : (moved : Moved) (name text : List ℕ) → IsSome (number_words moved name ++ text)
words_some Cost name text e = apart 99 0 refl (ap first e)
words_some RightSide name text e = apart 114 0 refl (ap first e)

-- two texts are equal where they are equal behind the word `cost`
behind_cost : (x y : List ℕ) → codes "cost " ++ x ≡ codes "cost " ++ y → x ≡ y
behind_cost x y e = cc

-- two texts are equal where they are equal behind the word `rhs`
behind_rhs : (x y : List ℕ) → codes "rhs " ++ x ≡ codes "rhs " ++ y → x ≡ y
behind_rhs x y e = cc

-- where two names without a space, each with a text behind a space, are the same text, names and texts are the same
behind_name : (name other x y : List ℕ) → HasNo 32 name → HasNo 32 other →
    (name ++ codes " ") ++ x ≡ (other ++ codes " ") ++ y → (name ≡ other) × (x ≡ y)
behind_name name other x y h k e =
    cut_at 32 name other x y h k (sym (append_assoc name (codes " ") x) ∙ e ∙ append_assoc other (codes " ") y)

-- where two names without a space begin the same text, each behind a number's word, words and names are the same
same_words : (moved way : Moved) (name other x y : List ℕ) → HasNo 32 name → HasNo 32 other →
    number_words moved name ++ x ≡ number_words way other ++ y → (moved ≡ way) × (name ≡ other) × (x ≡ y)
same_words Cost Cost name other x y h k e =
    let w = behind_name name other x y h k (behind_cost ((name ++ codes " ") ++ x) ((other ++ codes " ") ++ y) e) in
    (refl, w.0, w.1)
same_words RightSide RightSide name other x y h k e =
    let w = behind_name name other x y h k (behind_rhs ((name ++ codes " ") ++ x) ((other ++ codes " ") ++ y) e) in
    (refl, w.0, w.1)
same_words Cost RightSide name other x y h k e = absurd (apart 99 114 refl (ap first e))
same_words RightSide Cost name other x y h k e = absurd (apart 114 99 refl (ap first e))

-- ---- the lines of all numbers

abbrev count_of : Moved → Model → ℕ
count_of Cost m = width m
count_of RightSide m = height m

-- a range, or an operation past its limit, is no singular basis
never_singular : (o : Result (Range ℚ) (StartStop ℚ)) (r : Range ℚ) →
    (o ≡ Ok r) ⊎ ((p : Past ℚ) × (o ≡ Err (stop.Past p))) → o ≡ Err stop.Singular → ⊥
never_singular o r (inl e) s = ok_not_err r stop.Singular (sym e ∙ s)
never_singular o r (inr (p, e)) s =
    let y : ◌≡◌ {A = Result (Range ℚ) (StartStop ℚ)} (Err stop.Singular) (Err (stop.Past p)) = sym s ∙ e in
    let x : ◌≡◌ {A = StartStop ℚ} stop.Singular (stop.Past p) = cc in cc

module _ (m : Model) (h : IsModel m) (n : IsNarrowModel m) (f : Form) (formed : form_of (Some number_limit) m ≡ Ok f)
    (basis : List Status) (keeps : Keeps m basis) where
  abbrev range_at : Moved → ℕ → Result (Range ℚ) (StartStop ℚ)
  range_at moved at = range_of moved (Some number_limit) m f basis at

  -- no range from a basis that keeps the model is refused as singular
  not_singular : (moved : Moved) (at : ℕ) → range_at moved at ≡ Err stop.Singular → ⊥
  not_singular Cost at =
      let g = cost_gives (Some number_limit) m f formed basis keeps at in never_singular (range_at Cost at) g.0 g.2
  not_singular RightSide at =
      let g = side_gives (Some number_limit) m f formed basis keeps at in never_singular (range_at RightSide at) g.0 g.2

  abbrev line_at : Moved → ℕ → List ℕ
  line_at moved at = number_words moved (name_by moved m at) ++ bare (range_at moved at)

  -- what `range all` writes of a number is its line and a line feed
  line_is : (moved : Moved) (at : ℕ) → number_line moved m f basis at ≡ line_at moved at ++ 10 ∷ []
  unfolding number_line
  line_is moved at =
      ap (λ bs. number_words moved (name_by moved m at) ++ bs) (bare_is (range_at moved at) (not_singular moved at))
      ∙ sym (append_assoc (number_words moved (name_by moved m at)) (bare (range_at moved at)) (10 ∷ []))

  -- what `range all` writes of the first numbers is their lines, each with its line feed
  lines_are : (moved : Moved) (count : ℕ) → number_lines moved m f basis count ≡ ended_lines (made count (line_at moved))
  unfolding ended_lines
  lines_are moved zero = refl
  lines_are moved (suc k) =
      flat_map-append (number_line moved m f basis) (made k (λ at. at)) (k ∷ [])
      ∙ ap₂ (λ x y. x ++ y) (lines_are moved k) (ap (λ line. line ++ []) (line_is moved k))
      ∙ sym (ended_append (made k (line_at moved)) (line_at moved k ∷ []))

  -- whose line it is
  abbrev IsLine : List ℕ → Type 0
  IsLine line = (moved : Moved) × (at : ℕ) × (at < count_of moved m) × (line ≡ line_at moved at)

  -- the names of a kept model's columns and rows are of printed bytes
  name_printed : (moved : Moved) (at : ℕ) → at < count_of moved m → list_all is_printable (name_by moved m at) ≡ true
  name_printed Cost at l = (name_word (column m at).name (h.columns at no_column l).name).printable
  name_printed RightSide at l = (row_name_word (row m at).name (h.rows at no_row l)).printable

  -- the line of a number has no line feed in it
  line_plain : (line : List ℕ) → IsLine line → HasNo 10 line
  line_plain line (moved, at, l, e) =
      subst (λ (bs : List ℕ). HasNo 10 bs) (sym e)
      (both_no_feed (number_words moved (name_by moved m at)) (bare (range_at moved at))
      (words_no_feed moved (name_by moved m at)
      (printed_has_no 10 (omega arith) (name_by moved m at) (name_printed moved at l)))
      (bare_no_feed (range_at moved at)))

  abbrev all_lines : List (List ℕ)
  all_lines = made (width m) (line_at Cost) ++ made (height m) (line_at RightSide)

  are_lines : All IsLine all_lines
  are_lines =
      All-append IsLine (made (width m) (line_at Cost)) (made (height m) (line_at RightSide))
      (All-made IsLine (width m) (line_at Cost) (λ at l. (Cost, at, l, refl)))
      (All-made IsLine (height m) (line_at RightSide) (λ at l. (RightSide, at, l, refl)))

  -- the name of a column or row of a kept model has the place of that column or row
  placed : (moved : Moved) (at : ℕ) → at < count_of moved m → place_by moved m (name_by moved m at) ≡ Some at
  placed Cost at l = column_at m h at l
  placed RightSide at l = row_at m h at l

  module _ (v : ℚ) (optimal : IsOptimal m v) (moved : Moved) (value name low high slope behind : List ℕ)
      (says : number_of value ≡ Is v) (in_name : HasNo 32 name) (in_low : HasNo 32 low) (in_high : HasNo 32 high)
      (in_slope : HasNo 10 slope) where
    -- where the line of a number's range, and more, is a line of three texts, these are the range of this number
    range_says : (way : Moved) (at : ℕ) (more : List ℕ) → at < count_of way m → (o : Result (Range ℚ) (StartStop ℚ)) →
        range_at way at ≡ o → bare o ++ 10 ∷ more ≡ line_with low high slope behind →
        SaysRange way (name_by way m at) m value low high slope
    range_says way at more l (Ok r) q e =
        let t = range_is way (name_by way m at) m f basis at v r n (placed way at l) formed keeps optimal q in
        let s = texts_said r low high slope more behind t.0 in_low in_high in_slope e in
        record {
          at = at;
          named = placed way at l;
          optimum = v;
          says_value = says;
          is_optimal = optimal;
          basis = basis;
          keeps = keeps;
          range = r;
          says_low = s.says_low;
          says_high = s.says_high;
          says_slope = s.says_slope;
          is_range = t.1;
        }
    range_says way at more l (Err (stop.Past p)) q e = absurd (apart 80 82 refl (ap first e))
    range_says way at more l (Err stop.Singular) q e = absurd (apart 10 82 refl (ap first e))

    abbrev shown_text : List ℕ
    shown_text = number_words moved name ++ line_with low high slope behind

    -- where the text that is shown begins with a number's line, its texts are the range of the number
    line_says : Begins IsLine shown_text → SaysRange moved name m value low high slope
    line_says b = by b.line b.more b.holds b.is
      where
        by : (line more : List ℕ) → IsLine line → shown_text ≡ line ++ 10 ∷ more →
            SaysRange moved name m value low high slope
        by line more (way, at, l, e) is =
            let printed = printed_has_no 32 (omega arith) (name_by way m at) (name_printed way at l) in
            let w =
            same_words way moved (name_by way m at) name (bare (range_at way at) ++ 10 ∷ more)
            (line_with low high slope behind) printed in_name
            (sym (append_assoc (number_words way (name_by way m at)) (bare (range_at way at)) (10 ∷ more))
            ∙ ap (λ (bs : List ℕ). bs ++ 10 ∷ more) (sym e) ∙ sym is)
            in
            subst (λ (to : Moved). SaysRange to name m value low high slope) w.0
            (subst (λ (of : Name). SaysRange way of m value low high slope) w.1
            (range_says way at more l (range_at way at) refl w.2))

    -- where the lines of all numbers are some lines and then the text that is shown, its texts are the range of the
    -- number
    lines_say : (before : List (List ℕ)) →
        number_lines Cost m f basis (width m) ++ number_lines RightSide m f basis (height m)
        ≡ ended_lines before ++ shown_text →
        SaysRange moved name m value low high slope
    lines_say before e =
        line_says (behind_lines IsLine line_plain all_lines before shown_text are_lines
        (words_some moved name (line_with low high slope behind))
        (ended_append (made (width m) (line_at Cost)) (made (height m) (line_at RightSide))
        ∙ ap₂ (λ x y. x ++ y) (sym (lines_are Cost (width m))) (sym (lines_are RightSide (height m))) ∙ e))

-- ---- what is written

module _ (m : Model) (h : IsModel m) (n : IsNarrowModel m) (moved : Moved) (value name low high slope behind : List ℕ)
    (before : List (List ℕ)) (no_feed : HasNo 10 value) (in_name : HasNo 32 name) (in_low : HasNo 32 low)
    (in_high : HasNo 32 high) (in_slope : HasNo 10 slope) where
  -- the lines between, and the line of the range
  abbrev listed : List ℕ
  listed = ended_lines before ++ number_words moved name ++ line_with low high slope behind

  regrouped : listed ≡ ended_lines before ++ (number_words moved name ++ line_with low high slope behind)
  regrouped = append_assoc (ended_lines before) (number_words moved name) (line_with low high slope behind)

  not_listed : [] ≡ listed → ⊥
  not_listed e =
      no_text (ended_lines before) (number_words moved name ++ line_with low high slope behind)
      (words_some moved name (line_with low high slope behind)) (e ∙ regrouped)

  -- where the ranges from a basis are the lines that are listed, the texts in them are the range of the number
  from_says : (basis : List Status) (v : ℚ) → Keeps m basis → IsOptimal m v → number_of value ≡ Is v →
      (o : Result Form (FormFault ℚ)) → form_of (Some number_limit) m ≡ o → ranges_from m basis o ≡ listed →
      SaysRange moved name m value low high slope
  from_says basis v keeps optimal says (Ok f) is e =
      lines_say m h n f is basis keeps v optimal moved value name low high slope behind says in_name in_low in_high in_slope
      before (e ∙ regrouped)
  from_says basis v keeps optimal says (Err why) is e = absurd (not_listed e)

  -- where the answer's line of a solve's end and the texts of its ranges are OPTIMAL with a value and then these lines,
  -- the texts in them say the range of the number
  end_says : (solved : SolveEnd) → IsSolved m opening_budget None solved → (end : ExactSolveEnd) → solved.end ≡ end →
      MayAnswer m opening_budget end →
      reply_text (answer_of opening_budget end) ++ 10 ∷ ranges_text m end ≡ codes "OPTIMAL " ++ value ++ 10 ∷ listed →
      SaysRange moved name m value low high slope
  unfolding reply_text
  end_says solved is (outcome.Ended (known.Optimal v) cert (Some basis) pivots) q may e =
      let shown : IsShown m (known.Optimal v) = answer_shown m opening_budget (outcome.Ended (known.Optimal v) cert (Some basis) pivots) may in
      let more : number_text v ++ 10 ∷ ranges_from m basis (form_of (Some number_limit) m) ≡ value ++ 10 ∷ listed = cc in
      let two = cut_at 10 (number_text v) value _ _ (fraction_no_feed v) no_feed more in
      from_says basis v (solved_keeps m opening_budget solved (known.Optimal v) cert basis pivots is q)
      (shown_holds m (known.Optimal v) shown) (ap number_of (sym two.0) ∙ read_back v (value_fits m v shown))
      (form_of (Some number_limit) m) refl two.1
  end_says solved is (outcome.Ended (known.Optimal v) cert None pivots) q may e =
      let more : number_text v ++ 10 ∷ [] ≡ value ++ 10 ∷ listed = cc in
      let two = cut_at 10 (number_text v) value _ _ (fraction_no_feed v) no_feed more in
      absurd (not_listed two.1)
  end_says solved is (outcome.Ended known.Infeasible cert basis pivots) q may e = absurd (apart 73 79 refl (ap first e))
  end_says solved is (outcome.Ended known.Unbounded cert basis pivots) q may e = absurd (apart 85 79 refl (ap first e))
  end_says solved is (outcome.Past p) q may e = absurd (apart 80 79 refl (ap first e))
  end_says solved is outcome.Spent q may e = absurd (apart 83 79 refl (ap first e))

-- what `range all` writes of the end of a solve is the line of its answer and then the ranges
ranges_begin : (m : Model) (end : ExactSolveEnd) →
    ranges_lines m end ≡ reply_text (answer_of opening_budget end) ++ 10 ∷ ranges_text m end
unfolding ranges_lines check_line
ranges_begin m end = append_assoc (reply_text (answer_of opening_budget end)) (10 ∷ []) (ranges_text m end)

-- ---- the laws

module _ (style : Style) (lines : List (Line (List ℕ))) (m : Model) (what : TextSaid) (written : List ℕ)
    (is : text_said style lines ≡ Some what) (out : RangesOut what written) (spells : Spells style lines m) where
  whole : RangesOut (Ok m) written
  whole =
      let same : what ≡ Ok m = same_said what (Ok m) (sym is ∙ spelled_said usual_limits style lines m spells) in
      subst (λ (w : TextSaid). RangesOut w written) same out

  -- what `range all` writes of a text's model begins with the line of an answer shown of the model
  answered : IsAnswered m written
  answered =
      record {
        answer = answer_of opening_budget whole.0.end;
        behind = ranges_text m whole.0.end;
        line = whole.2 ∙ ranges_begin m whole.0.end;
        shown = answer_shown m opening_budget whole.0.end whole.1.may_answer;
      }

  -- what `range all` writes of a text's model begins with the line of an answer that is true of the model
  pub ranges_answer : (a : ExactReply) × (behind : List ℕ) × (written ≡ reply_text a ++ 10 ∷ behind)
      × IsTrueOf m a
  ranges_answer = (answered.answer, answered.behind, answered.line, answer_holds m answered.answer answered.shown)

  -- where `range all` writes `OPTIMAL` and a text, the text reads as the model's optimal value
  pub ranges_optimal : (text behind : List ℕ) → HasNoFeed text → written ≡ codes "OPTIMAL " ++ text ++ 10 ∷ behind →
      (v : ℚ) × (number_of text ≡ Is v) × IsOptimal m v
  ranges_optimal text behind no_feed e =
      optimal_line m answered.answer text answered.behind behind answered.shown no_feed (sym answered.line ∙ e)

  -- where `range all` writes `INFEASIBLE`, the model is infeasible
  pub ranges_infeasible : (behind : List ℕ) → written ≡ codes "INFEASIBLE" ++ 10 ∷ behind → IsInfeasible m
  ranges_infeasible behind e =
      infeasible_line m answered.answer answered.behind behind answered.shown (sym answered.line ∙ e)

  -- where `range all` writes `UNBOUNDED`, the model is unbounded
  pub ranges_unbounded : (behind : List ℕ) → written ≡ codes "UNBOUNDED" ++ 10 ∷ behind → IsUnbounded m
  ranges_unbounded behind e =
      unbounded_line m answered.answer answered.behind behind answered.shown (sym answered.line ∙ e)

  -- where `range all` writes `OPTIMAL` with a value, and behind some lines that of a number with three texts, these are
  -- the range of the number by a basis that keeps the model
  pub ranges_range : (moved : Moved) (value name low high slope behind : List ℕ) (before : List (List ℕ)) →
      HasNo 10 value → HasNo 32 name → HasNo 32 low → HasNo 32 high → HasNo 10 slope →
      written ≡ codes "OPTIMAL " ++ value
      ++ 10 ∷ (ended_lines before ++ number_words moved name ++ line_with low high slope behind) →
      SaysRange moved name m value low high slope
  ranges_range moved value name low high slope behind before no_feed in_name in_low in_high in_slope e =
      let kept = spelled_kept usual_limits style lines m spells in
      end_says m (usual_from_within m kept).0 (record { rows = kept.narrow_rows; columns = kept.narrow_columns }) moved value
      name low high slope behind before no_feed in_name in_low in_high in_slope whole.0 whole.1 whole.0.end refl
      whole.1.may_answer (sym (ranges_begin m whole.0.end) ∙ sym whole.2 ∙ e)
