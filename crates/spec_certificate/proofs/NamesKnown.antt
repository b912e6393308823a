-- The names by which the parts of a certificate are placed.
--
-- `column_word`: the name of a column of a kept model is one word.
-- `columns_named`: in a kept model the names of the columns are words that lead to the columns, for the letter `x`.
-- `rays_named`: in a kept model the names of the columns are words that lead to the columns, for the letter `r`.
-- `rows_named`: in a kept model the names of the rows are words that lead to the rows, for the letter `y`.
use Rattle.std.proofs.Common.{◌≡◌, ℕ, ◌<◌, false, Some}
use Rattle.spec_text.specs.Words.{same}
use Rattle.spec_model.specs.Model.{Model, Name, no_row, no_column, width, height}
use Rattle.spec_model.specs.Kept.{IsModel}
use Rattle.spec_model.proofs.NamePlaces.{column_name, row_name, columns_differ, rows_differ, column_at, row_at}
use Rattle.spec_mps.specs.NumberWritten.{IsWord}
use Rattle.spec_mps.proofs.WrittenNames.{name_word, row_name_word}
use Rattle.spec_check.specs.declared.certificate.Letter.{Letter}
use Rattle.spec_check.specs.declared.certificate.Letter.TheVariants.{X, Y, R}
use Rattle.spec_check.specs.Settle.{place_of}

-- the names of n columns, or rows, by which parts with a letter are placed
pub record AreNames (m : Model) (letter : Letter) (n : ℕ) (names : ℕ → Name) : Type 0 where
  pub words : (k : ℕ) → k < n → IsWord (names k)
  pub places : (k : ℕ) → k < n → place_of m letter (names k) ≡ Some k
  pub distinct : (i k : ℕ) → i < k → k < n → same (names i) (names k) ≡ false

pub column_word : (m : Model) → IsModel m → (j : ℕ) → j < width m → IsWord (column_name m j)
column_word m h j p = name_word (column_name m j) (h.columns j no_column p).name

pub columns_named : (m : Model) → IsModel m → AreNames m X (width m) (column_name m)
columns_named m h = record { words = column_word m h; places = column_at m h; distinct = columns_differ m h }

pub rays_named : (m : Model) → IsModel m → AreNames m R (width m) (column_name m)
rays_named m h = record { words = column_word m h; places = column_at m h; distinct = columns_differ m h }

pub rows_named : (m : Model) → IsModel m → AreNames m Y (height m) (row_name m)
rows_named m h =
    record {
      words = λ i p. row_name_word (row_name m i) (h.rows i no_row p);
      places = row_at m h;
      distinct = rows_differ m h;
    }
