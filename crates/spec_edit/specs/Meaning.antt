-- What changes of a model mean, row by row, column by column and coefficient by coefficient.
use Rattle.std.specs.Prelude.{ℕ, ◌≡◌, ◌<◌, ◌+◌, ◌==◌, ◌&&◌, Bool, true, false, [], ◌∷◌, nat_lt, if◌then◌else◌}
use Rattle.spec_text.specs.Words.{same}
use Rattle.spec_exact.specs.Fraction.{ℚ, 0ℚ}
use Rattle.spec_model.specs.Model.{Model, Name, width, height, row, column, coefficient}
use Rattle.spec_model.specs.Kept.{row_names, column_names}
use Rattle.spec_edit.specs.declared.edit.Edit.TheVariants.{AddRow, DelRow, AddCol, DelCol}
use Rattle.spec_edit.specs.Changes.{with_coefficient, without_row, without_column}
use Rattle.spec_edit.specs.Edited.{Pairs, ExactEdit}

-- the number that an item had before number i was removed, where it has the number k after that
abbrev pub skipping : ℕ → ℕ → ℕ
skipping i k = if nat_lt k i then k else k + 1

-- once the coefficient of m in row i and column j is set to v, it is v, and all other coefficients are those of m
abbrev pub IsWithCoefficient : Model → ℕ → ℕ → ℚ → Type 0
IsWithCoefficient m i j v =
    (a b : ℕ) → coefficient (with_coefficient m i j v) a b ≡ (if (a == i) && (b == j) then v else coefficient m a b)

-- Once row i of m is removed, there is one row less. The rows before it keep their numbers, and the numbers of those
-- after it are one less. Each row stays as it was and keeps its coefficients.
pub record IsWithoutRow (m : Model) (i : ℕ) : Type 0 where
  pub height : height m ≡ height (without_row m i) + 1
  pub rows : (a : ℕ) → row (without_row m i) a ≡ row m (skipping i a)
  pub coefficients : (a j : ℕ) → coefficient (without_row m i) a j ≡ coefficient m (skipping i a) j

-- Once column j of m is removed, there is one column less. The columns before it keep their numbers, and the numbers of
-- those after it are one less. Each column stays as it was.
pub record IsWithoutColumn (m : Model) (j : ℕ) : Type 0 where
  pub width : width m ≡ width (without_column m j) + 1
  pub columns : (b : ℕ) → column (without_column m j) b ≡ column m (skipping j b)

-- the number that the first of the pairs with this name gives to it; 0 where no pair has the name
abbrev pub given_to : Name → Pairs → ℚ
given_to name [] = 0ℚ
given_to name (p ∷ pairs) = if same p.0 name then p.1 else given_to name pairs

-- n has one column more than m. Its last column has in each row of m the coefficient that the pairs give to the row's
-- name, and 0 where they give none.
pub record IsWithPairs (m n : Model) (pairs : Pairs) : Type 0 where
  pub last : width n ≡ width m + 1
  pub coefficients : (i : ℕ) → i < height m → coefficient n i (width m) ≡ given_to (row m i).name pairs

-- whether an edit adds or removes a row or a column
abbrev pub adds_or_removes : ExactEdit → Bool
adds_or_removes (AddRow name kind rhs range) = true
adds_or_removes (DelRow name) = true
adds_or_removes (AddCol name cost pairs) = true
adds_or_removes (DelCol name) = true
adds_or_removes other = false

-- the objective, the rows and the columns of n have the names that they have in m, in the same order
pub record KeepsNames (m n : Model) : Type 0 where
  pub objective : n.objective ≡ m.objective
  pub rows : row_names n ≡ row_names m
  pub columns : column_names n ≡ column_names m
