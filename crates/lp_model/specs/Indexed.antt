-- Models that keep the names of their rows and columns, so that these are found by them.
use Rattle.std.specs.Prelude.{◌≡◌, List, Option, IfSome}
use Rattle.spec_model.specs.Model.{Model, Name}
use Rattle.spec_model.specs.Kept.{IsModel, row_names, column_names}

-- the model may be kept, and names of rows or of columns that are kept beside it are its own, in order
pub record IsIndexed (m : Model) (names_by_row names_by_column : Option (List Name)) : Type 0 where
  pub model : IsModel m
  pub rows : IfSome names_by_row (λ names. names ≡ row_names m)
  pub columns : IfSome names_by_column (λ names. names ≡ column_names m)
