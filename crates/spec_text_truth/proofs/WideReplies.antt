-- The lines that an exact solve replies, and what the first of them says.
--
-- `known_no_feed`: the text of an answer with numbers of any width has no line feed.
-- `line_no_feed`: the first line of a wide solve has no line feed in it.
-- `line_is_true`: the first line of a wide solve is true of the model.
use Rattle.std.proofs.Common.{◌≡◌, ℕ, zero, suc, ◌<◌, Bool, true, false, cond, List, [], ◌∷◌, ◌++◌, refl, sym, ap, ◌∙◌}
use Rattle.std.proofs.Common.{arith, ◌⊎◌, inl, inr, get_or, subst}
use Rattle.std.specs.Prelude.{All, codes}
use Rattle.std.proofs.lemmas.List.Elements.{All-nil, All-cons, All-append}
use Rattle.spec_exact.specs.Fraction.{ℚ, 0ℚ, eq_ℚ}
use Rattle.spec_model.specs.Model.{Model, Name, width, height, row, column, part}
use Rattle.spec_model.specs.Kept.{IsModel}
use Rattle.spec_model.specs.Truth.{IsOptimal, IsInfeasible, IsUnbounded}
use Rattle.spec_mps.specs.WideWritten.{wide_text}
use Rattle.spec_mps.proofs.WrittenShort.{name_short}
use Rattle.spec_check.specs.declared.certificate.Letter.{Letter}
use Rattle.spec_check.specs.declared.certificate.Letter.TheVariants.{X, Y, R}
use Rattle.spec_check.specs.declared.certificate.Certificate.{Certificate}
use Rattle.spec_check.specs.declared.certificate.Certificate.TheVariants.{Optimal, Infeasible, Clash, Unbounded}
use Rattle.spec_check.specs.declared.certificate.Known.{Known}
use Rattle.spec_check.specs.declared.certificate.Known.TheVariants as known
use Rattle.spec_check.specs.Certificate.{IsFor, Holds}
use Rattle.spec_certificate.specs.TextWritten.{wide_writing, letter_text, part_text_by, part_lines_by, lines_below_by}
use Rattle.spec_certificate.specs.TextWritten.{column_lines_by, row_lines_by, kind_text, all_part_lines_by}
use Rattle.spec_certificate.specs.TextWritten.{certificate_lines_by, wide_certificate_lines}
use Rattle.spec_server.specs.WideLines.{wide_known_text}
use Rattle.spec_commands.proofs.PlainLines.{column_named, row_named}
use Rattle.spec_truth.specs.Agree.{IsOpen}
use Rattle.spec_truth.proofs.AnswerLines.{first, apart}
use Rattle.spec_truth.proofs.WideReplies.{IsKnownLine}
use Rattle.spec_text_truth.specs.TrueOutput.{HasNoFeed, IsWideNumber, IsTrueLine}
use Rattle.spec_text_truth.proofs.PlainText.{tested_no_feed, both_no_feed, wide_no_feed}
use Rattle.spec_text_truth.proofs.PlainWords.{printed_no_feed}

-- ---- they have no line feed

pub known_no_feed : (what : Known ℚ) → HasNoFeed (wide_known_text what)
known_no_feed (known.Optimal v) =
    both_no_feed (codes "OPTIMAL ") (wide_text v) (tested_no_feed (codes "OPTIMAL ") refl) (wide_no_feed v)
known_no_feed known.Infeasible = tested_no_feed (codes "INFEASIBLE") refl
known_no_feed known.Unbounded = tested_no_feed (codes "UNBOUNDED") refl

-- the text of a letter has no line feed
letter_no_feed : (letter : Letter) → HasNoFeed (letter_text letter)
letter_no_feed X = tested_no_feed (codes "x") refl
letter_no_feed Y = tested_no_feed (codes "y") refl
letter_no_feed R = tested_no_feed (codes "r") refl

-- where a text has no line feed, it has none behind a space
behind_blank : (text : List ℕ) → HasNoFeed text → HasNoFeed (32 ∷ text)
behind_blank text h = both_no_feed (32 ∷ []) text (tested_no_feed (32 ∷ []) refl) h

-- where a name has no line feed, the lines of a part with this name have none
part_no_feed : (letter : Letter) (name : Name) (v : ℚ) → HasNoFeed name →
    All HasNoFeed (part_lines_by wide_writing letter name v)
part_no_feed letter name v h = by (eq_ℚ v 0ℚ)
  where
    by : (t : Bool) → All HasNoFeed (cond t [] (part_text_by wide_writing letter name v ∷ []))
    by true = All-nil HasNoFeed
    by false =
        All-cons HasNoFeed (part_text_by wide_writing letter name v) []
        (both_no_feed (letter_text letter) (32 ∷ (name ++ 32 ∷ wide_text v)) (letter_no_feed letter)
        (behind_blank (name ++ 32 ∷ wide_text v)
        (both_no_feed name (32 ∷ wide_text v) h (behind_blank (wide_text v) (wide_no_feed v)))))
        (All-nil HasNoFeed)

-- where the first n names have no line feed, the lines of the first n values have none
below_no_feed : (letter : Letter) (names : ℕ → Name) (values : List ℚ) (n : ℕ) →
    ((k : ℕ) → k < n → HasNoFeed (names k)) → All HasNoFeed (lines_below_by wide_writing letter names values n)
below_no_feed letter names values zero h = All-nil HasNoFeed
below_no_feed letter names values (suc n) h =
    All-append HasNoFeed (lines_below_by wide_writing letter names values n)
    (part_lines_by wide_writing letter (names n) (part values n))
    (below_no_feed letter names values n (λ i p. h i (omega arith)))
    (part_no_feed letter (names n) (part values n) (h n (omega arith)))

module _ (m : Model) (kept : IsModel m) where
  -- the name of a column of a kept model has no line feed
  column_no_feed : (j : ℕ) → j < width m → HasNoFeed (column m j).name
  column_no_feed j l =
      printed_no_feed (column m j).name (name_short (column m j).name (column_named m kept j l)).plain

  -- the name of a row of a kept model has no line feed
  row_no_feed : (i : ℕ) → i < height m → HasNoFeed (row m i).name
  row_no_feed i l = printed_no_feed (row m i).name (name_short (row m i).name (row_named m kept i l)).plain

  -- the wide lines of values by columns have no line feed in them
  columns_no_feed : (letter : Letter) (xs : List ℚ) → All HasNoFeed (column_lines_by wide_writing m letter xs)
  columns_no_feed letter xs = below_no_feed letter (λ j. (column m j).name) xs (width m) column_no_feed

  -- the wide lines of values by rows have no line feed in them
  rows_no_feed : (letter : Letter) (xs : List ℚ) → All HasNoFeed (row_lines_by wide_writing m letter xs)
  rows_no_feed letter xs = below_no_feed letter (λ i. (row m i).name) xs (height m) row_no_feed

  -- the text of a certificate's kind has no line feed
  kind_no_feed : (cert : Certificate (List ℚ)) → IsFor m cert → HasNoFeed (kind_text m cert)
  kind_no_feed (Optimal x y) f = tested_no_feed (codes "OPTIMAL") refl
  kind_no_feed (Infeasible y) f = tested_no_feed (codes "INFEASIBLE") refl
  kind_no_feed (Unbounded x r) f = tested_no_feed (codes "UNBOUNDED") refl
  kind_no_feed (Clash j) f =
      both_no_feed (codes "CLASH") (32 ∷ (column m j).name) (tested_no_feed (codes "CLASH") refl)
      (behind_blank (column m j).name (column_no_feed j f))

  -- the wide lines of a certificate's parts have no line feed in them
  parts_no_feed : (cert : Certificate (List ℚ)) → All HasNoFeed (all_part_lines_by wide_writing m cert)
  parts_no_feed (Optimal x y) =
      All-append HasNoFeed (column_lines_by wide_writing m X x) (row_lines_by wide_writing m Y y)
      (columns_no_feed X x) (rows_no_feed Y y)
  parts_no_feed (Infeasible y) = rows_no_feed Y y
  parts_no_feed (Unbounded x r) =
      All-append HasNoFeed (column_lines_by wide_writing m X x) (column_lines_by wide_writing m R r)
      (columns_no_feed X x) (columns_no_feed R r)
  parts_no_feed (Clash j) = All-nil HasNoFeed

  -- the lines of a certificate for a kept model, in numbers of any width, have no line feed in them
  pub certificate_no_feed : (cert : Certificate (List ℚ)) → IsFor m cert →
      All HasNoFeed (wide_certificate_lines m cert)
  unfolding certificate_lines_by
  certificate_no_feed cert f =
      All-append HasNoFeed (kind_text m cert ∷ all_part_lines_by wide_writing m cert) (codes "END" ∷ [])
      (All-cons HasNoFeed (kind_text m cert) (all_part_lines_by wide_writing m cert) (kind_no_feed cert f)
      (parts_no_feed cert))
      (All-cons HasNoFeed (codes "END") [] (tested_no_feed (codes "END") refl) (All-nil HasNoFeed))

-- ---- what the first of them says

-- where a known answer is true of a model, and its wide text is OPTIMAL and a text, the text is that of the model's
-- optimal value
optimal_known : (m : Model) (what : Known ℚ) (text : List ℕ) → Holds m what →
    wide_known_text what ≡ codes "OPTIMAL " ++ text → (v : ℚ) × IsWideNumber text v × IsOptimal m v
optimal_known m (known.Optimal v) text h e = let same : wide_text v ≡ text = cc in (v, sym same, h)
optimal_known m known.Infeasible text h e = absurd (apart 73 79 refl (ap first e))
optimal_known m known.Unbounded text h e = absurd (apart 85 79 refl (ap first e))

-- where a known answer is true and its text is `INFEASIBLE`, the model is infeasible
infeasible_known : (m : Model) (what : Known ℚ) → Holds m what → wide_known_text what ≡ codes "INFEASIBLE" →
    IsInfeasible m
infeasible_known m (known.Optimal v) h e = absurd (apart 79 73 refl (ap first e))
infeasible_known m known.Infeasible h e = h
infeasible_known m known.Unbounded h e = absurd (apart 85 73 refl (ap first e))

-- where a known answer is true and its text is `UNBOUNDED`, the model is unbounded
unbounded_known : (m : Model) (what : Known ℚ) → Holds m what → wide_known_text what ≡ codes "UNBOUNDED" →
    IsUnbounded m
unbounded_known m (known.Optimal v) h e = absurd (apart 79 85 refl (ap first e))
unbounded_known m known.Infeasible h e = absurd (apart 73 85 refl (ap first e))
unbounded_known m known.Unbounded h e = h

-- the line of an open end differs from each of them in its third letter
abbrev pub third : List ℕ → ℕ
third text = get_or text 2 0

pub line_no_feed : (m : Model) (line : List ℕ) → IsOpen line ⊎ IsKnownLine m line → HasNoFeed line
line_no_feed m line (inl unknown) = subst HasNoFeed (sym unknown) (tested_no_feed (codes "OPEN") refl)
line_no_feed m line (inr k) = subst HasNoFeed (sym k.is_line) (known_no_feed k.what)

pub line_is_true : (IsOf : Model → Type 0) (m : Model) (line : List ℕ) → IsOf m → IsOpen line ⊎ IsKnownLine m line →
    IsTrueLine IsOf IsWideNumber line
line_is_true IsOf m line is (inl g) = record {
  optimal = λ text e. absurd (apart 69 84 refl (ap third (sym g ∙ e)));
  infeasible = λ e. absurd (apart 69 70 refl (ap third (sym g ∙ e)));
  unbounded = λ e. absurd (apart 69 66 refl (ap third (sym g ∙ e)));
}
line_is_true IsOf m line is (inr k) = record {
  optimal = λ text e. (m, is, optimal_known m k.what text k.holds (sym k.is_line ∙ e));
  infeasible = λ e. (m, is, infeasible_known m k.what k.holds (sym k.is_line ∙ e));
  unbounded = λ e. (m, is, unbounded_known m k.what k.holds (sym k.is_line ∙ e));
}
