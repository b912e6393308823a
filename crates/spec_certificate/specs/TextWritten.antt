-- The text that a certificate is written as, over the type F of numbers, and how these are written.
use Rattle.std.specs.Prelude.{ℕ, zero, suc, Bool, List, [], ◌∷◌, ◌++◌, codes, get_or, if◌then◌else◌}
use Rattle.spec_exact.specs.Fraction.{ℚ, 0ℚ, eq_ℚ}
use Rattle.spec_model.specs.Model.{Model, Name, width, height, row, column}
use Rattle.spec_mps.specs.NumberWritten.{number_text}
use Rattle.spec_mps.specs.WideWritten.{wide_text}
use Rattle.spec_check.specs.declared.certificate.Letter.{Letter}
use Rattle.spec_check.specs.declared.certificate.Letter.TheVariants.{X, Y, R}
use Rattle.spec_check.specs.declared.certificate.Certificate.{Certificate}
use Rattle.spec_check.specs.declared.certificate.Certificate.TheVariants.{Optimal, Infeasible, Clash, Unbounded}

-- how numbers of type F are written: which one is 0, whether one is 0, and the text of each
pub record Writing (F : Type 0) : Type 0 where
  pub none : F
  pub is_none : F → Bool
  pub text : F → List ℕ

-- how fractions are written, if each has this text
abbrev pub writing_of : (ℚ → List ℕ) → Writing ℚ
writing_of text = record { none = 0ℚ; is_none = λ v. eq_ℚ v 0ℚ; text = text }

-- how fractions of at most 127 bits are written
abbrev pub narrow_writing : Writing ℚ
narrow_writing = writing_of number_text

-- how fractions of any width are written
abbrev pub wide_writing : Writing ℚ
wide_writing = writing_of wide_text

-- the text of a letter of a certificate: x, y or r
abbrev pub letter_text : Letter → List ℕ
letter_text X = codes "x"
letter_text Y = codes "y"
letter_text R = codes "r"

-- the text of a part: the letter, the name and the number, with one blank between
abbrev pub part_text_by : {F : Type 0} → Writing F → Letter → Name → F → List ℕ
part_text_by write letter name v = letter_text letter ++ 32 ∷ (name ++ 32 ∷ write.text v)

-- the list of the line of a part; empty where its number is 0
abbrev pub part_lines_by : {F : Type 0} → Writing F → Letter → Name → F → List (List ℕ)
part_lines_by write letter name v = if write.is_none v then [] else part_text_by write letter name v ∷ []

-- the lines of the parts with this letter for the first n columns or rows, by their names and values, in order; those
-- whose number is 0 have no line
abbrev pub lines_below_by : {F : Type 0} → Writing F → Letter → (ℕ → Name) → List F → ℕ → List (List ℕ)
lines_below_by write letter names values zero = []
lines_below_by write letter names values (suc n) =
    lines_below_by write letter names values n ++ part_lines_by write letter (names n) (get_or values n write.none)

-- the lines of the parts with this letter for the columns of a model, in order; columns whose number is 0 have no line
abbrev pub column_lines_by : {F : Type 0} → Writing F → Model → Letter → List F → List (List ℕ)
column_lines_by write m letter values = lines_below_by write letter (λ j. (column m j).name) values (width m)

-- the lines of the parts with this letter for the rows of a model, in order; rows whose number is 0 have no line
abbrev pub row_lines_by : {F : Type 0} → Writing F → Model → Letter → List F → List (List ℕ)
row_lines_by write m letter values = lines_below_by write letter (λ i. (row m i).name) values (height m)

-- the first line of a certificate: its kind, and for a clash the column's name
abbrev pub kind_text : {F : Type 0} → Model → Certificate (List F) → List ℕ
kind_text m (Optimal x y) = codes "OPTIMAL"
kind_text m (Infeasible y) = codes "INFEASIBLE"
kind_text m (Unbounded x r) = codes "UNBOUNDED"
kind_text m (Clash j) = codes "CLASH" ++ 32 ∷ (column m j).name

-- The lines of the parts of a certificate that are not 0: of an optimum x of the columns, then y of the rows; of an
-- infeasible one y of the rows; of an unbounded one x, then r, of the columns; of a clash none.
abbrev pub all_part_lines_by : {F : Type 0} → Writing F → Model → Certificate (List F) → List (List ℕ)
all_part_lines_by write m (Optimal x y) = column_lines_by write m X x ++ row_lines_by write m Y y
all_part_lines_by write m (Infeasible y) = row_lines_by write m Y y
all_part_lines_by write m (Unbounded x r) = column_lines_by write m X x ++ column_lines_by write m R r
all_part_lines_by write m (Clash j) = []

-- the lines of a certificate: its kind, the parts that are not 0 in the order of the model, and END
unfoldable pub certificate_lines_by : {F : Type 0} → Writing F → Model → Certificate (List F) → List (List ℕ)
certificate_lines_by write m cert = (kind_text m cert ∷ all_part_lines_by write m cert) ++ codes "END" ∷ []

-- ---- with numbers of 127 bits

-- the line of a part: its letter, its name and its number, of 127 bits
abbrev pub part_text : Letter → Name → ℚ → List ℕ
part_text = part_text_by narrow_writing

-- the line of a part with a number of 127 bits, or no line where the number is 0
abbrev pub part_lines : Letter → Name → ℚ → List (List ℕ)
part_lines = part_lines_by narrow_writing

-- the lines of the parts with this letter for the first n columns or rows, by their names and values of 127 bits, in
-- order; those whose number is 0 have no line
abbrev pub lines_below : Letter → (ℕ → Name) → List ℚ → ℕ → List (List ℕ)
lines_below = lines_below_by narrow_writing

-- the lines of the parts with this letter for the columns of a model, with numbers of 127 bits; columns whose number is
-- 0 have no line
abbrev pub column_lines : Model → Letter → List ℚ → List (List ℕ)
column_lines = column_lines_by narrow_writing

-- the lines of the parts with this letter for the rows of a model, with numbers of 127 bits; rows whose number is 0
-- have no line
abbrev pub row_lines : Model → Letter → List ℚ → List (List ℕ)
row_lines = row_lines_by narrow_writing

-- the lines of all parts of a certificate that are not 0, with numbers of 127 bits, those of columns before those of
-- rows
abbrev pub all_part_lines : Model → Certificate (List ℚ) → List (List ℕ)
all_part_lines = all_part_lines_by narrow_writing

-- the lines of a certificate with numbers of 127 bits: its kind, its parts that are not 0, and END
abbrev pub certificate_lines : Model → Certificate (List ℚ) → List (List ℕ)
certificate_lines = certificate_lines_by narrow_writing

-- ---- with numbers of any width

-- the lines of a certificate with numbers of any width: its kind, its parts that are not 0, and END
abbrev pub wide_certificate_lines : Model → Certificate (List ℚ) → List (List ℕ)
wide_certificate_lines = certificate_lines_by wide_writing
