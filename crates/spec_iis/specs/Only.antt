-- The model with some of its sides alone.
use Rattle.std.specs.Prelude.{ℕ, zero, suc, ◌+◌, ◌||◌, Bool, true, false, List, [], ◌∷◌, ◌++◌, map, Option, Some, None}
use Rattle.std.specs.Prelude.{if◌then◌else◌}
use Rattle.std.specs.List.{filter}
use Rattle.spec_exact.specs.Fraction.{ℚ, 0ℚ}
use Rattle.spec_exact.specs.Run.{made}
use Rattle.spec_model.specs.declared.parts.Sense.TheVariants.{Min}
use Rattle.spec_model.specs.declared.parts.Kind.{Kind}
use Rattle.spec_model.specs.declared.parts.Kind.TheVariants.{L, G}
use Rattle.spec_model.specs.Model.{Model, ExactRow, ExactColumn, width, height, row, column, limits_of}
use Rattle.spec_iis.specs.declared.side.Side.{Side}
use Rattle.spec_iis.specs.Sides.{is_listed}

-- ---- which sides are listed

-- whether the list has the lower side of row k, or of column k where the flag says no row
abbrev pub has_lower : List Side → Bool → ℕ → Bool
has_lower sides of_row k = is_listed sides (record { row = of_row; at = k; upper = false })

-- whether the list has the upper side of row k, or of column k where the flag says no row
abbrev pub has_upper : List Side → Bool → ℕ → Bool
has_upper sides of_row k = is_listed sides (record { row = of_row; at = k; upper = true })

-- whether row i stays in the model with these sides alone: its lower or its upper side is listed
abbrev pub stays : List Side → ℕ → Bool
stays sides i = has_lower sides true i || has_upper sides true i

-- ---- rows

-- the row r with b as its only limit, without a range: the lower limit for the kind G, the upper one for the kind L
abbrev pub single : Kind → ExactRow → ℚ → ExactRow
single kind r b = record { name = r.name; kind = kind; rhs = b; range = None }

-- A row with one of its two limits, where it has both and the flags keep just one: this becomes the right side of a row
-- of kind G or L. Else the row stays as it is.
abbrev pub with_sides : Bool → Bool → ExactRow → Option ℚ → Option ℚ → ExactRow
with_sides true false r (Some low) (Some high) = single G r low
with_sides false true r (Some low) (Some high) = single L r high
with_sides lower upper r low high = r

-- a row with its lower side alone, or its upper one alone, as the flags say; as it is where both or none are kept, or
-- where it has not both
unfoldable pub only_row : Bool → Bool → ExactRow → ExactRow
only_row lower upper r = with_sides lower upper r (limits_of r).lower (limits_of r).upper

-- the list of those of f 0 .. f (n - 1) whose numbers pass the test, in order
abbrev pub picked : {A : Type 0} → (ℕ → Bool) → (ℕ → A) → ℕ → List A
picked p f zero = []
picked p f (suc n) = if p n then picked p f n ++ f n ∷ [] else picked p f n

-- how many numbers below k pass the test: the new number of row k, if those that pass stay
abbrev pub rank : (ℕ → Bool) → ℕ → ℕ
rank p zero = 0
rank p (suc k) = if p k then rank p k + 1 else rank p k

-- row i of the model with its listed sides alone; as it is where both or none are listed, or it has not both limits
abbrev pub only_row_at : Model → List Side → ℕ → ExactRow
only_row_at m sides i = only_row (has_lower sides true i) (has_upper sides true i) (row m i)

-- a side of the model as a side of the model with some sides alone: a side of a row gets the new number of the row
-- among those that stay, a side of a column is unchanged
abbrev pub renumbered : List Side → Side → Side
renumbered sides s = record { row = s.row; at = if s.row then rank (stays sides) s.at else s.at; upper = s.upper }

-- ---- columns

-- the bound if it is listed, else none
abbrev pub if_listed : Bool → Option ℚ → Option ℚ
if_listed listed bound = if listed then bound else None

-- the entries of a column in the rows that stay, with the new numbers of these rows
unfoldable pub only_entries : (ℕ → Bool) → List (ℕ × ℚ) → List (ℕ × ℚ)
only_entries p entries = map (λ e. (rank p e.0, e.1)) (filter (λ e. p e.0) entries)

-- column j with its listed bounds alone, the cost 0, and its entries in rows that stay
abbrev pub only_column_at : Model → List Side → ℕ → ExactColumn
only_column_at m sides j =
    record {
      name = (column m j).name;
      cost = 0ℚ;
      lower = if_listed (has_lower sides false j) (column m j).lower;
      upper = if_listed (has_upper sides false j) (column m j).upper;
      entries = only_entries (stays sides) (column m j).entries;
    }

-- ---- the whole, whose objective is 0

-- The model with these limits and bounds alone, where it has each of them. Rows without a listed side are left out,
-- each column stays with its listed bounds, and the objective is 0, to be made least.
unfoldable pub only : Model → List Side → Model
only m sides =
    record {
      name = m.name;
      sense = Min;
      objective = m.objective;
      offset = 0ℚ;
      rows = picked (stays sides) (only_row_at m sides) (height m);
      columns = made (width m) (only_column_at m sides);
    }
