-- What is read of rows.
use Rattle.std.specs.Prelude.{ℕ, ◌≡◌, Bool, List, [], ◌∷◌, Option, Some, None, Ok, get_or, if◌then◌else◌}
use Rattle.std.specs.Option.{unwrap_or}
use Rattle.spec_exact.specs.Fraction.{ℚ}
use Rattle.spec_exact.specs.Narrow.{number_limit}
use Rattle.spec_model.specs.Model.{ExactRow, limits_of}
use Rattle.spec_iis.specs.declared.side.Side.{Side}
use Rattle.spec_iis.specs.Sides.{end_of}
use Rattle.spec_iis.specs.Only.{rank}
use Rattle.spec_iis.specs.Rule.{end_run}

-- the operation that gives this limit of the row, the upper or the lower one, is not refused at 127 bits
abbrev pub IsReadable : Bool → ExactRow → Type 0
IsReadable upper r = end_run upper (Some number_limit) r ≡ Ok (end_of upper (limits_of r))

-- the number of row i among the rows that pass the test; none where it does not pass
abbrev pub place_by : (ℕ → Bool) → ℕ → Option ℕ
place_by p i = if p i then Some (rank p i) else None

-- the list of the entry of v in the row at a place; empty where there is no place
abbrev pub entry_by : Option ℕ → ℚ → List (ℕ × ℚ)
entry_by None v = []
entry_by (Some k) v = (k, v) ∷ []

-- a side with the new number of its row, where `places` gives each row its new number; a side of a column, or of a row
-- without one, stays
abbrev pub placed : List (Option ℕ) → Side → Side
placed places s = record {
  row = s.row;
  at = if s.row then unwrap_or (get_or places s.at None) s.at else s.at;
  upper = s.upper;
}
