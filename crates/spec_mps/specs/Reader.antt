-- What was read of a text so far, and the cards of ROWS and COLUMNS.
use Rattle.std.specs.Prelude.{ℕ, ◌==◌, ◌||◌, ◌&&◌, Bool, true, false, not, Option, Some, None, is_none}
use Rattle.std.specs.Prelude.{option_map, Ok, Err, List, [], ◌∷◌, ◌++◌, length, nat_lt, codes, if◌then◌else◌}
use Rattle.std.specs.List.{list_any, position}
use Rattle.spec_text.specs.Words.{same}
use Rattle.spec_exact.specs.Fraction.{ℚ, 0ℚ, eq_ℚ}
use Rattle.spec_model.specs.declared.parts.Kind.{Kind}
use Rattle.spec_model.specs.declared.parts.Sense.{Sense}
use Rattle.spec_model.specs.declared.parts.SizeLimits.{SizeLimits}
use Rattle.spec_model.specs.Model.{Name, ExactRow, ExactColumn, is_free}
use Rattle.spec_model.specs.Kept.{is_name, is_row_name}
use Rattle.spec_mps.specs.declared.fault.Code.TheVariants as code
use Rattle.spec_mps.specs.declared.style.Style.{Style}
use Rattle.spec_mps.specs.declared.style.Style.TheVariants.{Free, Fixed}
use Rattle.spec_mps.specs.declared.section.Section.{Section}
use Rattle.spec_mps.specs.declared.section.Section.TheVariants as section
use Rattle.spec_mps.specs.declared.section.Seen.{Seen}
use Rattle.spec_mps.specs.declared.target.Target.{Target}
use Rattle.spec_mps.specs.declared.target.Target.TheVariants.{Objective, Row}
use Rattle.spec_mps.specs.NumberText.{number_of, answer}
use Rattle.spec_mps.specs.Fields.{Fields, text_at}
use Rattle.spec_mps.specs.Checks.{Check, ◌>>=◌, must, need, coded}
use Rattle.spec_mps.specs.Shapes.{row_type_of, shaped}

-- the state of the reader of a model's text: what its lines gave up to here
pub record State : Type 0 where
  pub part : Option Section  -- the section of the next data card
  pub seen : Seen
  pub name : Name
  pub sense : Option Sense
  pub objective : Option Name
  pub rows : List ExactRow
  pub offset : ℚ
  pub columns : List ExactColumn  -- the columns that are whole
  pub column : Option ExactColumn  -- the one that cards are read of
  pub lowered : List Bool  -- for each column, whether a card has set its lower bound
  pub paired : List Target  -- what has a number already, 0 too, in this column or in this section
  pub set : Option (Option Name)  -- the set of this section's first card, which may be absent

-- the state before the first line: no section, name, sense, objective, rows or columns are read, and the offset is 0
abbrev pub start : State
start =
    record {
      part = None;
      seen =
          record {
            name = false;
            sense = false;
            rows = false;
            columns = false;
            right_sides = false;
            ranges = false;
            bounds = false;
          };
      name = [];
      sense = None;
      objective = None;
      rows = [];
      offset = 0ℚ;
      columns = [];
      column = None;
      lowered = [];
      paired = [];
      set = None;
    }

-- ---- names and numbers

-- whether a name is that of the objective; false where no objective was read yet
abbrev pub is_objective : Option Name → Name → Bool
is_objective None name = false
is_objective (Some objective) name = same objective name

-- the row with this number, counted from 0, as a target; none where no number is given
abbrev pub row_at : Option ℕ → Option Target
row_at None = None
row_at (Some i) = Some (Row i)

-- what a row's name stands for: the objective, or a row by its number among the rows, from 0; none for an unknown name
unfoldable pub place_of : State → Name → Option Target
place_of s name =
    if is_objective s.objective name then Some Objective else row_at (position (λ r. same r.name name) s.rows)

-- the number of at most 127 bits that a text spells, or the code of its fault
unfoldable pub number_in : List ℕ → Check ℚ
number_in text = coded (answer (number_of text))

-- whether two targets are both the objective, or both the same row
abbrev pub same_target : Target → Target → Bool
same_target Objective Objective = true
same_target Objective (Row j) = false
same_target (Row i) Objective = false
same_target (Row i) (Row j) = i == j

-- whether a target is in a list
abbrev pub is_among : Target → List Target → Bool
is_among t ts = list_any (same_target t) ts

-- ---- ROWS: shape, type, name, a name that is taken, too many rows

-- a row with the right side 0 and without a range, as it is before these are read
abbrev pub new_row : Kind → Name → ExactRow
new_row kind name = record { name = name; kind = kind; rhs = 0ℚ; range = None }

-- whether a row of this type is the objective: it is of type N, and no objective was read before
abbrev pub is_first : State → Kind → Bool
is_first s kind = is_none s.objective && is_free kind

-- the state after a row of this type: with this objective if it is the first of type N, else with one more row
abbrev pub with_row : State → Kind → Name → State
with_row s kind name =
    if is_first s kind then record s { objective = Some name } else record s { rows = s.rows ++ new_row kind name ∷ [] }

-- the state with a row of this kind and name: the objective, if it is the first of type N, else one more row behind the
-- others. Or the code of the fault: a name that is not valid or is taken, or too many rows besides the objective.
unfoldable pub add_row : SizeLimits → State → Kind → Name → Check State
add_row limits s kind name = do
  _ ← must (is_row_name name) code.Name
  _ ← must (is_none (place_of s name)) code.RowTaken
  _ ← must (is_first s kind || nat_lt (length s.rows) limits.rows) code.Limit
  Ok (with_row s kind name)

-- the state with the row, or the objective, that a card of ROWS gives by its type and name; or the code of the card's
-- fault
unfoldable pub rows_card : SizeLimits → Style → State → Fields → Check State
rows_card limits style s fields = do
  _ ← shaped style section.Rows fields
  kind ← need (row_type_of (text_at 1 fields)) code.RowType
  add_row limits s kind (text_at 2 fields)

-- ---- COLUMNS: a marker, shape, the column's name, a name that is taken, too many columns, then the pairs

-- a column of this name with cost 0, no entries and the usual bounds: 0 as the lower one and no upper one
abbrev pub new_column : Name → ExactColumn
new_column name = record { name = name; cost = 0ℚ; lower = Some 0ℚ; upper = None; entries = [] }

-- the columns whose cards are all read, and behind them the column whose cards are being read, if any
abbrev pub columns_with : List ExactColumn → Option ExactColumn → List ExactColumn
columns_with columns None = columns
columns_with columns (Some column) = columns ++ column ∷ []

-- all columns that were read, with the one whose cards are being read
abbrev pub whole_columns : State → List ExactColumn
whole_columns s = columns_with s.columns s.column

-- whether the column that cards are read of has this name
abbrev pub is_open : Option ExactColumn → Name → Bool
is_open None name = false
is_open (Some column) name = same column.name name

-- The state whose open column has this name: as it is, where it has; else with a new column of this name, and the old
-- open one among the whole ones. Or the code of the fault: a name that is taken, or too many columns.
unfoldable pub opened : SizeLimits → State → Name → Check State
opened limits s name =
    if is_open s.column name then Ok s
    else (do
      _ ← must (not (list_any (λ c. same c.name name) (whole_columns s))) code.ColumnTaken
      _ ← must (nat_lt (length (whole_columns s)) limits.columns) code.Limit
      Ok (record s {
        columns = whole_columns s;
        column = Some (new_column name);
        lowered = s.lowered ++ false ∷ [];
        paired = [];
      }))

-- the entries of a column, in the order of rows, with one more, v in row i, at its place in that order
abbrev pub put_entry : ℕ → ℚ → List (ℕ × ℚ) → List (ℕ × ℚ)
put_entry i v [] = (i, v) ∷ []
put_entry i v (e ∷ es) = if nat_lt i e.0 then (i, v) ∷ e ∷ es else e ∷ put_entry i v es

-- a column with one more number: as its cost where the target is the objective, or as its entry in the row that is the
-- target; a 0 for a row makes no entry
abbrev pub with_number : ExactColumn → Target → ℚ → ExactColumn
with_number c Objective v = record c { cost = v }
with_number c (Row i) v = if eq_ℚ v 0ℚ then c else record c { entries = put_entry i v c.entries }

-- the state with a number of the open column at a target; a fault where the target has a number already
unfoldable pub enter : State → Target → ℚ → Check State
enter s t v = do
  _ ← must (not (is_among t s.paired)) code.EntryRepeated
  Ok (record s { column = option_map (λ c. with_number c t v) s.column; paired = t ∷ s.paired })

-- the state whose open column has the cost or entry that a pair on a card of COLUMNS, a row's name and a number's text,
-- gives it; or the code of the fault, an unknown row, a wrong number or a second one
unfoldable pub column_pair : State → Name → List ℕ → Check State
column_pair s name text = do
  t ← need (place_of s name) code.UnknownRow
  v ← number_in text
  enter s t v

-- the texts of a list in pairs; a single last one is dropped
abbrev pub pairs_of : List (List ℕ) → List (List ℕ × List ℕ)
pairs_of [] = []
pairs_of (a ∷ []) = []
pairs_of (a ∷ b ∷ more) = (a, b) ∷ pairs_of more

-- the state after `take` has taken each pair of a row's name and a number's text in turn,
-- or the code of the first fault
abbrev pub in_turn : (State → Name → List ℕ → Check State) → State → List (List ℕ × List ℕ) → Check State
in_turn take s [] = Ok s
in_turn take s (pair ∷ pairs) = take s pair.0 pair.1 >>= λ t. in_turn take t pairs

-- the state whose open column has the costs and entries that all pairs of a card of COLUMNS give it, or the code of the
-- first fault
abbrev pub column_pairs : State → List (List ℕ × List ℕ) → Check State
column_pairs = in_turn column_pair

-- the state after the texts of a card of COLUMNS, a column's name and pairs: the column of this name, which may be new,
-- is open and has the numbers of the pairs; or the code of the first fault
abbrev pub column_by : SizeLimits → State → List (List ℕ) → Check State
column_by limits s [] = Err code.CardShape
column_by limits s (name ∷ texts) = do
  _ ← must (is_name name) code.Name
  t ← opened limits s name
  column_pairs t (pairs_of texts)

-- the number of the field that says 'MARKER' on a card that marks integer columns: 2 in free form, 3 in fixed form
abbrev pub marker_field : Style → ℕ
marker_field Free = 2
marker_field Fixed = 3

-- the state after a card of COLUMNS, whose pairs give numbers to the column that it names; or the code of the card's
-- fault, that of integer columns for a marker
unfoldable pub columns_card : SizeLimits → Style → State → Fields → Check State
columns_card limits style s fields = do
  _ ← must (not (same (text_at (marker_field style) fields) (codes "'MARKER'"))) code.Integer
  texts ← shaped style section.Columns fields
  column_by limits s texts
