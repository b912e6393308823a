-- Rows and columns beside which their names stand, so that they are found by them.
use Rattle.std.specs.Prelude.{◌≡◌, ◌<◌, ◌^◌, Option, List, length, map}
use Rattle.spec_model.specs.Model.{Name, ExactRow, ExactColumn}
use Rattle.spec_mps.specs.Reader.{columns_with}

-- the names are those of the rows, in order, of which there are fewer than 2^32
pub record AreRows (rows : List ExactRow) (names : List Name) : Type 0 where
  pub few : length rows < 2 ^ 32
  pub named : names ≡ map (λ (r : ExactRow). r.name) rows

-- the columns whose cards are all read, and the one whose cards are being read, if any
pub record ColumnsRead : Type 0 where
  pub whole : List ExactColumn
  pub current : Option ExactColumn

-- the names are those of the columns whose cards are all read, in order, and then of the one whose cards are being
-- read, if any
pub record AreColumns (columns : ColumnsRead) (names : List Name) : Type 0 where
  pub named : names ≡ map (λ (c : ExactColumn). c.name) (columns_with columns.whole columns.current)
