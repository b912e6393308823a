-- The text of a model that may be kept, with the lines of a certificate after it, is no longer than an input may be.
use Rattle.std.proofs.Common.{◌≡◌, ℕ, zero, suc, ◌+◌, ◌*◌, ◌≤◌, ◌<◌, Bool, true, false, cond}
use Rattle.std.proofs.Common.{List, [], ◌∷◌, ◌++◌, length, refl}
use Rattle.std.proofs.Common.{length-append, arith}
use Rattle.std.specs.Prelude.{codes, All}
use Rattle.spec_exact.specs.Fraction.{ℚ, 0ℚ, eq_ℚ}
use Rattle.spec_exact.specs.Narrow.{IsNarrow}
use Rattle.spec_exact.proofs.Narrow.{zero_narrow}
use Rattle.spec_text.specs.Lines.{input_limit}
use Rattle.spec_model.specs.Model.{Model, Name, width, height, row, column, part}
use Rattle.spec_model.specs.Kept.{IsUsualModel, is_name}
use Rattle.spec_mps.specs.declared.style.Style.{Style}
use Rattle.spec_mps.specs.NumberWritten.{number_text}
use Rattle.spec_mps.specs.Written.{cards_of}
use Rattle.spec_mps.specs.Written.{cards_text}
use Rattle.spec_check.specs.declared.certificate.Letter.{Letter}
use Rattle.spec_check.specs.declared.certificate.Letter.TheVariants.{X, Y, R}
use Rattle.spec_check.specs.declared.certificate.Certificate.{Certificate}
use Rattle.spec_check.specs.declared.certificate.Certificate.TheVariants.{Optimal, Infeasible, Clash, Unbounded}
use Rattle.spec_check.specs.Certificate.{IsFor, IsNarrowCertificate}
use Rattle.spec_certificate.specs.TextWritten.{letter_text, part_text, part_lines, lines_below, column_lines, row_lines}
use Rattle.spec_certificate.specs.TextWritten.{kind_text, all_part_lines, certificate_lines, certificate_lines_by}
use Rattle.spec_server.specs.Output.{ended_lines}
use Rattle.spec_commands.proofs.PlainLines.{both_short, column_named, row_named}
use Rattle.spec_commands.proofs.WrittenLengths.{model_fits}

-- how many bytes lines take, each with a line feed
size : List (List ℕ) → ℕ
size lines = length (ended_lines lines)

-- lines behind other lines take as many bytes as both take
size-append : (xs ys : List (List ℕ)) → size (xs ++ ys) ≡ size xs + size ys
unfolding size ended_lines
size-append [] ys = omega arith
size-append (x ∷ xs) ys =
    let a = length-append (x ++ 10 ∷ []) (ended_lines (xs ++ ys)) in
    let b = length-append (x ++ 10 ∷ []) (ended_lines xs) in
    let r = size-append xs ys in
    omega arith

-- a line alone takes its bytes and one for the line feed
size_one : (line : List ℕ) → size (line ∷ []) ≡ length line + 1
unfolding size ended_lines
size_one line =
    let a = length-append (line ++ 10 ∷ []) [] in
    let e = length-append line (10 ∷ []) in
    omega arith

-- no lines take no bytes
size_none : size [] ≡ 0
unfolding size ended_lines
size_none = refl

-- the lines of one part of a certificate, with a name and a number of at most 127 bits, take at most 204 bytes
part_fits : (letter : Letter) (name : Name) (v : ℚ) → is_name name ≡ true → IsNarrow v →
    size (part_lines letter name v) ≤ 204
part_fits letter name v h n = by (eq_ℚ v 0ℚ)
  where
    letter_len : (l : Letter) → length (letter_text l) ≡ 1
    letter_len X = refl
    letter_len Y = refl
    letter_len R = refl

    by : (t : Bool) → size (cond t [] (part_text letter name v ∷ [])) ≤ 204
    by true = let z = size_none in omega arith
    by false =
        let s = both_short name v h n in
        let x = s.short_name.fits in
        let y = s.short_number.fits in
        let l = letter_len letter in
        let a = length-append (letter_text letter) (32 ∷ (name ++ 32 ∷ number_text v)) in
        let b = length-append name (32 ∷ number_text v) in
        let o = size_one (part_text letter name v) in
        omega arith

-- the lines of the first n values of a certificate take at most 204 bytes each, where the names are names and the
-- values have at most 127 bits
below_fit : (letter : Letter) (names : ℕ → Name) (values : List ℚ) (n : ℕ) →
    ((k : ℕ) → k < n → is_name (names k) ≡ true) → ((k : ℕ) → k < n → IsNarrow (part values k))
    → size (lines_below letter names values n) ≤ 204 * n
below_fit letter names values zero h k = let z = size_none in omega arith
below_fit letter names values (suc n) h k =
    let a = size-append (lines_below letter names values n) (part_lines letter (names n) (part values n)) in
    let r = below_fit letter names values n (λ i p. h i (omega arith)) (λ i p. k i (omega arith)) in
    let p = part_fits letter (names n) (part values n) (h n (omega arith)) (k n (omega arith)) in
    omega arith

module _ (m : Model) (kept : IsUsualModel m) where
  -- the lines of one number of at most 127 bits for each column have at most 204 bytes for each column
  columns_fit : (letter : Letter) (xs : List ℚ) → length xs ≡ width m → All IsNarrow xs →
      size (column_lines m letter xs) ≤ 204 * width m
  columns_fit letter xs e h =
      below_fit letter (λ j. (column m j).name) xs (width m) (column_named m kept.0)
      (λ k l. h k 0ℚ (omega (arith, l, e)))

  -- the lines of one number of at most 127 bits for each row have at most 204 bytes for each row
  rows_fit : (letter : Letter) (xs : List ℚ) → length xs ≡ height m → All IsNarrow xs →
      size (row_lines m letter xs) ≤ 204 * height m
  rows_fit letter xs e h =
      below_fit letter (λ i. (row m i).name) xs (height m) (row_named m kept.0) (λ k l. h k 0ℚ (omega (arith, l, e)))

  -- a usual model has at most 512 columns
  wide : width m ≤ 512
  wide = kept.1.few_columns

  -- a usual model has at most 256 rows
  high : height m ≤ 256
  high = kept.1.few_rows

  -- the lines of the numbers of a certificate for a usual model have at most 208,896 bytes, where each number has at
  -- most 127 bits
  parts_fit : (cert : Certificate (List ℚ)) → IsFor m cert → IsNarrowCertificate cert →
      size (all_part_lines m cert) ≤ 208896
  parts_fit (Optimal x y) f n =
      let a = size-append (column_lines m X x) (row_lines m Y y) in
      let b = columns_fit X x f.0 n.0 in
      let c = rows_fit Y y f.1 n.1 in
      let w = wide in
      let h = high in
      omega arith
  parts_fit (Infeasible y) f n = let c = rows_fit Y y f n in let h = high in omega arith
  parts_fit (Unbounded x r) f n =
      let a = size-append (column_lines m X x) (column_lines m R r) in
      let b = columns_fit X x f.0 n.0 in
      let c = columns_fit R r f.1 n.1 in
      let w = wide in
      omega arith
  parts_fit (Clash j) f n = let z = size_none in omega arith

  -- the first line of a certificate has at most 106 bytes
  kind_fits : (cert : Certificate (List ℚ)) → IsFor m cert → length (kind_text m cert) ≤ 106
  kind_fits (Optimal x y) f = omega arith
  kind_fits (Infeasible y) f = omega arith
  kind_fits (Unbounded x r) f = omega arith
  kind_fits (Clash j) f =
      let s = both_short (column m j).name 0ℚ (column_named m kept.0 j f) zero_narrow in
      let x = s.short_name.fits in
      let a = length-append (codes "CLASH") (32 ∷ (column m j).name) in
      omega arith

  -- the lines of a certificate for a usual model have at most 210,000 bytes, where each of its numbers has at most 127
  -- bits
  certificate_fits : (cert : Certificate (List ℚ)) → IsFor m cert → IsNarrowCertificate cert →
      size (certificate_lines m cert) ≤ 210000
  unfolding certificate_lines_by
  certificate_fits cert f n =
      let a = size-append (kind_text m cert ∷ all_part_lines m cert) (codes "END" ∷ []) in
      let b = size-append (kind_text m cert ∷ []) (all_part_lines m cert) in
      let k = size_one (kind_text m cert) in
      let kind = kind_fits cert f in
      let parts = parts_fit cert f n in
      let end = size_one (codes "END") in
      omega arith

-- a usual model's text with a certificate behind it is no longer than an input may be
pub text_fits : (style : Style) (m : Model) → IsUsualModel m → (cert : Certificate (List ℚ)) → IsFor m cert →
    IsNarrowCertificate cert →
    length (cards_text style (cards_of m) ++ ended_lines (certificate_lines m cert)) ≤ input_limit
unfolding size
text_fits style m kept cert f n =
    let a = length-append (cards_text style (cards_of m)) (ended_lines (certificate_lines m cert)) in
    let t = model_fits style m kept in
    let c = certificate_fits m kept cert f n in
    omega arith
