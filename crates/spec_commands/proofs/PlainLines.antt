-- The lines of a written certificate are short, and of spaces and printed bytes, so a text of them is read back by
-- lines.
--
-- `ended_lines_behind`: plain lines with line feeds, and more behind them, are read as these lines and then those of
--   the rest.
-- `both_short`: the name of a column and the text of a number of at most 127 bits are short enough for a line.
-- `narrow_fitting`: the text of a number of at most 127 bits fits in a line.
use Rattle.std.proofs.Common.{◌≡◌, ℕ, zero, suc, ◌≤◌, ◌<◌, Bool, true, false, cond, None, List, [], ◌∷◌, ◌++◌}
use Rattle.std.proofs.Common.{length, get_or, map, refl, ap, ◌∙◌, append_assoc, length-append, arith}
use Rattle.std.specs.Prelude.{codes, All}
use Rattle.std.specs.List.{flat_map, list_all}
use Rattle.std.proofs.lemmas.Bool.{and_parts}
use Rattle.std.proofs.lemmas.List.Elements.{All-nil, All-cons, All-append}
use Rattle.spec_text.specs.declared.line.Line.TheVariants.{Text}
use Rattle.spec_text.specs.Lines.{line_of, ended_lines_of}
use Rattle.spec_text.proofs.LineLemmas.{ended_lines_of_line, line_short}
use Rattle.spec_exact.specs.Fraction.{ℚ, 0ℚ, eq_ℚ}
use Rattle.spec_exact.specs.Narrow.{IsNarrow}
use Rattle.spec_exact.proofs.Narrow.{zero_narrow}
use Rattle.spec_model.specs.declared.parts.Sense.TheVariants.{Min}
use Rattle.spec_model.specs.Model.{Model, Name, ExactColumn, no_row, no_column, width, height, row, column, part}
use Rattle.spec_model.specs.Kept.{IsModel, IsKeptColumn, IsNarrowRow, IsNarrowColumn, is_name, is_row_name}
use Rattle.spec_model.specs.Kept.{is_model_name}
use Rattle.spec_mps.specs.NumberWritten.{number_text}
use Rattle.spec_mps.specs.Written.{cards_of, rows_cards, columns_cards, section_card}
use Rattle.spec_mps.proofs.WrittenSteps.{IsPlainLine}
use Rattle.spec_mps.proofs.WrittenShort.{IsShort, cards_short, name_short, plain_both}
use Rattle.spec_mps.proofs.WrittenWords.{is_plain, stripped_plain}
use Rattle.spec_mps.proofs.WrittenLines.{no_feed}
use Rattle.spec_check.specs.declared.certificate.Letter.{Letter}
use Rattle.spec_check.specs.declared.certificate.Letter.TheVariants.{X, Y, R}
use Rattle.spec_check.specs.declared.certificate.Certificate.{Certificate}
use Rattle.spec_check.specs.declared.certificate.Certificate.TheVariants.{Optimal, Infeasible, Clash, Unbounded}
use Rattle.spec_check.specs.Certificate.{IsFor, IsNarrowCertificate}
use Rattle.spec_certificate.specs.TextWritten.{Writing, writing_of, letter_text, part_text_by, part_lines_by}
use Rattle.spec_certificate.specs.TextWritten.{lines_below_by, column_lines_by, row_lines_by, kind_text, all_part_lines_by}
use Rattle.spec_certificate.specs.TextWritten.{certificate_lines, certificate_lines_by}
use Rattle.spec_certificate.specs.TextRead.{AllNumbers}

-- ---- lines one after the other

-- the ended lines of a plain line, a line feed and more are this line and the ended lines of more
one_line : (line more : List ℕ) → IsPlainLine line →
    ended_lines_of ((line ++ 10 ∷ []) ++ more) ≡ Text line ∷ ended_lines_of more
one_line line more h =
    ap ended_lines_of (append_assoc line (10 ∷ []) more) ∙ ended_lines_of_line line more (no_feed line h.plain)
    ∙ ap (λ l. l ∷ ended_lines_of more) (ap line_of (stripped_plain line h.plain) ∙ line_short line h.short)

-- lines that end, whatever follows them
pub ended_lines_behind : {X : Type 0} (f : X → List ℕ) (xs : List X) (more : List ℕ) → All (λ x. IsPlainLine (f x)) xs
    → ended_lines_of (flat_map (λ x. f x ++ 10 ∷ []) xs ++ more) ≡ map (λ x. Text (f x)) xs ++ ended_lines_of more
ended_lines_behind f [] more h = refl
ended_lines_behind {X} f (x ∷ xs) more h =
    let rest : List ℕ = flat_map (λ x. f x ++ 10 ∷ []) xs in
    ap ended_lines_of (append_assoc (f x ++ 10 ∷ []) rest more)
    ∙ one_line (f x) (rest ++ more) (h 0 x (omega arith))
    ∙ ap (λ ls. Text (f x) ∷ ls) (ended_lines_behind f xs more (λ k d l. h (suc k) d (omega arith)))

-- ---- names and numbers

-- a model with this column and cost alone
abbrev with_cost : Name → ℚ → Model
with_cost name v =
    record {
      name = [];
      sense = Min;
      objective = codes "N";
      offset = 0ℚ;
      rows = [];
      columns = record
          { name = name; cost = v; lower = None; upper = None; entries = [] } ∷ [];
    }

-- a model with one column alone may be kept, where its name may stand and its cost has at most 127 bits
cost_kept : (name : Name) (v : ℚ) → is_name name ≡ true → IsNarrow v → IsModel (with_cost name v)
unfolding is_name is_row_name is_model_name
cost_kept name v h n =
    let c : ExactColumn = record { name = name; cost = v; lower = None; upper = None; entries = [] } in
    record {
      few = record { few_rows = omega arith; few_columns = omega arith };
      name = refl;
      objective = refl;
      rows = λ k d l. absurd (omega arith);
      ranges = λ k d l. absurd (omega arith);
      columns = All-cons (IsKeptColumn 0) c []
          (record {
            name = h;
            lower = tt;
            upper = tt;
            entries = record {
              inside = λ k d l. absurd (omega arith);
              ascending = λ i k d p l. absurd (omega arith);
              not_zero = λ k d l.
                  absurd (omega arith);
            };
          })
          (All-nil (IsKeptColumn 0));
      rows_distinct = λ i k d p l. absurd (omega arith);
      columns_distinct = λ i k d p l. absurd (omega arith);
      offset = zero_narrow;
      narrow_rows = All-nil IsNarrowRow;
      narrow_columns =
          All-cons IsNarrowColumn c []
          (record { cost = n; lower = tt; upper = tt; entries = λ k d l. absurd (omega arith) })
          (All-nil IsNarrowColumn);
    }

-- this name and the text of this number are short enough for a line
pub record AreShort (name : Name) (v : ℚ) : Type 0 where
  pub short_name : IsShort name
  pub short_number : IsShort (number_text v)

-- they are short in the text of that model
pub both_short : (name : Name) (v : ℚ) → is_name name ≡ true → IsNarrow v → AreShort name v
unfolding cards_of rows_cards columns_cards
both_short name v h n =
    let card = cards_short (with_cost name v) (cost_kept name v h n) 4 (section_card []) (omega arith) in
    record { short_name = card.0.0; short_number = card.0.1.1.0 }

-- ---- a part

-- the text of a letter is short
letter_short : (letter : Letter) → IsShort (letter_text letter)
letter_short X = record { fits = omega arith; plain = refl }
letter_short Y = record { fits = omega arith; plain = refl }
letter_short R = record { fits = omega arith; plain = refl }

-- two short words and a text of plain bytes that is short enough make a plain line
words_plain : (a b c : List ℕ) → IsShort a → IsShort b → length c ≤ 16010 → list_all is_plain c ≡ true →
    IsPlainLine (a ++ 32 ∷ (b ++ 32 ∷ c))
words_plain a b c h k fits plain =
    let p = length-append a (32 ∷ (b ++ 32 ∷ c)) in
    let q = length-append b (32 ∷ c) in
    let x = h.fits in
    let y = k.fits in
    record {
      short = omega (arith, p, q, x, y, fits);
      plain = plain_both a (32 ∷ (b ++ 32 ∷ c)) h.plain (plain_both b (32 ∷ c) k.plain plain);
    }

-- ---- with numbers of which the texts fit in a line

-- the text of a number has at most 16,010 bytes, which leaves room for a letter and a name in a line, and these are
-- spaces or printed ones
pub record IsFitting (text : ℚ → List ℕ) (v : ℚ) : Type 0 where
  pub fits : length (text v) ≤ 16010
  pub plain : list_all is_plain (text v) ≡ true

pub narrow_fitting : (v : ℚ) → IsNarrow v → IsFitting number_text v
unfolding is_name
narrow_fitting v n =
    let s = (both_short (codes "X") v refl n).short_number in
    let short = s.fits in
    record { fits = omega (arith, short); plain = s.plain }

module _ (text : ℚ → List ℕ) where
  -- the way of writing certificates whose numbers have these texts
  abbrev write : Writing ℚ
  write = writing_of text

  -- the line of one number behind a letter and a name is plain, where the number's text fits a line
  part_plain : (letter : Letter) (name : Name) (v : ℚ) → is_name name ≡ true → IsFitting text v →
      All IsPlainLine (part_lines_by write letter name v)
  part_plain letter name v h n = by (eq_ℚ v 0ℚ)
    where
      by : (t : Bool) → All IsPlainLine (cond t [] (part_text_by write letter name v ∷ []))
      by true = All-nil IsPlainLine
      by false =
          All-cons IsPlainLine (part_text_by write letter name v) []
          (words_plain (letter_text letter) name (text v) (letter_short letter) (name_short name h) n.fits n.plain)
          (All-nil IsPlainLine)

  -- the lines of the first n numbers behind a letter and their names are plain, where the numbers' texts fit a line
  below_plain : (letter : Letter) (names : ℕ → Name) (values : List ℚ) (n : ℕ) →
      ((k : ℕ) → k < n → is_name (names k) ≡ true) → ((k : ℕ) → k < n → IsFitting text (part values k))
      → All IsPlainLine (lines_below_by write letter names values n)
  below_plain letter names values zero h k = All-nil IsPlainLine
  below_plain letter names values (suc n) h k =
      All-append IsPlainLine (lines_below_by write letter names values n) (part_lines_by write letter (names n) (part values n))
      (below_plain letter names values n (λ i p. h i (omega arith)) (λ i p. k i (omega arith)))
      (part_plain letter (names n) (part values n) (h n (omega arith)) (k n (omega arith)))

-- ---- a certificate

module _ (m : Model) (kept : IsModel m) where
  -- the name of each column of a model that is kept is a name
  pub column_named : (j : ℕ) → j < width m → is_name (column m j).name ≡ true
  column_named j l = (kept.columns j no_column l).name

  -- the name of each row of a model that is kept is a name
  pub row_named : (i : ℕ) → i < height m → is_name (row m i).name ≡ true
  unfolding is_row_name
  row_named i l = (and_parts (is_name (row m i).name) _ (kept.rows i no_row l)).0

  -- the line of a clash, with a short name of its column, is plain
  clash_plain : (name : Name) → IsShort name → IsPlainLine (codes "CLASH" ++ 32 ∷ name)
  clash_plain name h =
      let p = length-append (codes "CLASH") (32 ∷ name) in
      let x = h.fits in
      record { short = omega arith; plain = plain_both (codes "CLASH") (32 ∷ name) refl h.plain }

  -- the first line of a certificate for the model is plain
  kind_plain : (cert : Certificate (List ℚ)) → IsFor m cert → IsPlainLine (kind_text m cert)
  kind_plain (Optimal x y) f = record { short = omega arith; plain = refl }
  kind_plain (Infeasible y) f = record { short = omega arith; plain = refl }
  kind_plain (Unbounded x r) f = record { short = omega arith; plain = refl }
  kind_plain (Clash j) f =
      clash_plain (column m j).name (name_short (column m j).name (column_named j f))

  module _ (text : ℚ → List ℕ) where
    -- the way of writing certificates of the model whose numbers have these texts
    abbrev written : Writing ℚ
    written = writing_of text

    -- the lines of one number for each column are plain, where the numbers' texts fit a line
    columns_plain : (letter : Letter) (xs : List ℚ) → length xs ≡ width m → All (IsFitting text) xs →
        All IsPlainLine (column_lines_by written m letter xs)
    columns_plain letter xs e h =
        below_plain text letter (λ j. (column m j).name) xs (width m) column_named (λ k l. h k 0ℚ (omega (arith, l, e)))

    -- the lines of one number for each row are plain, where the numbers' texts fit a line
    rows_plain : (letter : Letter) (xs : List ℚ) → length xs ≡ height m → All (IsFitting text) xs →
        All IsPlainLine (row_lines_by written m letter xs)
    rows_plain letter xs e h =
        below_plain text letter (λ i. (row m i).name) xs (height m) row_named (λ k l. h k 0ℚ (omega (arith, l, e)))

    -- the lines of the numbers of a certificate are plain, where the numbers' texts fit a line
    parts_plain : (cert : Certificate (List ℚ)) → IsFor m cert → AllNumbers (IsFitting text) cert →
        All IsPlainLine (all_part_lines_by written m cert)
    parts_plain (Optimal x y) f n =
        All-append IsPlainLine (column_lines_by written m X x) (row_lines_by written m Y y) (columns_plain X x f.0 n.0) (rows_plain Y y f.1 n.1)
    parts_plain (Infeasible y) f n = rows_plain Y y f n
    parts_plain (Unbounded x r) f n =
        All-append IsPlainLine (column_lines_by written m X x) (column_lines_by written m R r) (columns_plain X x f.0 n.0)
        (columns_plain R r f.1 n.1)
    parts_plain (Clash j) f n = All-nil IsPlainLine

    -- the lines of a certificate for the model are plain, where the texts of its numbers fit a line
    pub fitting_plain : (cert : Certificate (List ℚ)) → IsFor m cert → AllNumbers (IsFitting text) cert →
        All IsPlainLine (certificate_lines_by written m cert)
    unfolding certificate_lines_by
    fitting_plain cert f n =
        All-append IsPlainLine (kind_text m cert ∷ all_part_lines_by written m cert) (codes "END" ∷ [])
        (All-cons IsPlainLine (kind_text m cert) (all_part_lines_by written m cert) (kind_plain cert f) (parts_plain cert f n))
        (All-cons IsPlainLine (codes "END") [] (record { short = omega arith; plain = refl }) (All-nil IsPlainLine))

  -- the texts of numbers of at most 127 bits fit a line
  all_fitting : (xs : List ℚ) → All IsNarrow xs → All (IsFitting number_text) xs
  all_fitting xs h = λ k d l. narrow_fitting (get_or xs k d) (h k d l)

  -- the texts of a certificate's numbers of at most 127 bits fit a line
  numbers_fitting : (cert : Certificate (List ℚ)) → IsNarrowCertificate cert → AllNumbers (IsFitting number_text) cert
  numbers_fitting (Optimal x y) n = (all_fitting x n.0, all_fitting y n.1)
  numbers_fitting (Infeasible y) n = all_fitting y n
  numbers_fitting (Clash j) n = tt
  numbers_fitting (Unbounded x r) n = (all_fitting x n.0, all_fitting r n.1)

  -- the lines of a certificate for the model are plain, where its numbers have at most 127 bits
  pub certificate_plain : (cert : Certificate (List ℚ)) → IsFor m cert → IsNarrowCertificate cert →
      All IsPlainLine (certificate_lines m cert)
  certificate_plain cert f n = fitting_plain number_text cert f (numbers_fitting cert n)
