-- The columns, or the rows, that have a number with a letter.
use Rattle.std.specs.Prelude.{ℕ, List}
use Rattle.spec_model.specs.Model.{Model, Name, width, height, row, column}
use Rattle.spec_check.specs.declared.certificate.Letter.{Letter}
use Rattle.spec_check.specs.declared.certificate.Letter.TheVariants.{X, Y, R}
use Rattle.spec_certificate.specs.TextWritten.{Writing, lines_below_by}

-- how many numbers the list for a letter has: one for each column, or for y for each row
abbrev pub count_of : Model → Letter → ℕ
count_of m X = width m
count_of m Y = height m
count_of m R = width m

-- the name of the column, or for y of the row, of a number
abbrev pub name_at : Model → Letter → ℕ → Name
name_at m X = λ j. (column m j).name
name_at m Y = λ i. (row m i).name
name_at m R = λ j. (column m j).name

-- the lines of the parts with this letter for all columns of the model, or for y all rows, without those whose number
-- is 0
abbrev pub value_lines : {F : Type 0} → Writing F → Model → Letter → List F → List (List ℕ)
value_lines write m letter values = lines_below_by write letter (name_at m letter) values (count_of m letter)
