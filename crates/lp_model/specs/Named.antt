-- What the names of rows and columns lead to.
use Rattle.std.specs.Prelude.{ℕ, Ok}
use Rattle.spec_model.specs.Model.{Model, Name}
use Rattle.spec_edit.specs.Edited.{OrFault, ◌>>=◌, row_named, column_named}

-- the model that `change` makes at the number of the row with this name, or the fault that no row has it
abbrev pub at_row : Model → Name → (ℕ → Model) → OrFault Model
at_row m name change = row_named m name >>= λ i. Ok (change i)

-- the model that `change` makes at the number of the column with this name, or the fault that no column has it
abbrev pub at_column : Model → Name → (ℕ → Model) → OrFault Model
at_column m name change = column_named m name >>= λ j. Ok (change j)

-- the model that `change` makes at the numbers of the row and the column with these names, or the fault that one of
-- them is unknown
abbrev pub at_entry : Model → Name → Name → (ℕ → ℕ → Model) → OrFault Model
at_entry m row column change = row_named m row >>= λ i. at_column m column (change i)
