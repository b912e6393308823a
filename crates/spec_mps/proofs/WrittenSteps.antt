-- Written cards that a reader goes over, from one state to another.
use Rattle.std.specs.Prelude.{ℕ, ◌+◌, ◌≡◌, ◌≤◌, ◌&&◌, true, false, nat_le, Some}
use Rattle.std.specs.Prelude.{None, List, [], ◌∷◌, ◌++◌, length, map, codes}
use Rattle.std.specs.List.{All, list_all}
use Rattle.spec_text.specs.Lines.{line_limit, lines_of}
use Rattle.spec_text.specs.declared.line.Line.{Line}
use Rattle.spec_text.specs.declared.line.Line.TheVariants.{Text}
use Rattle.spec_model.specs.Kept.{usual_limits}
use Rattle.spec_model.specs.declared.parts.Sense.{Sense}
use Rattle.spec_model.specs.declared.parts.Sense.TheVariants.{Min, Max}
use Rattle.spec_exact.specs.Fraction.{0ℚ}
use Rattle.spec_model.specs.Model.{Name, Model, ExactRow, ExactColumn}
use Rattle.spec_mps.specs.declared.style.Style.{Style}
use Rattle.spec_mps.specs.declared.style.Style.TheVariants.{Free, Fixed}
use Rattle.spec_mps.specs.declared.section.Section.TheVariants as section
use Rattle.spec_mps.specs.Reader.{State, start, new_row}
use Rattle.spec_mps.specs.Steps.{begun, judge}
use Rattle.spec_mps.specs.Written.{WrittenCards, cards_text, line_text, name_card, sense_cards}
use Rattle.spec_mps.specs.Written.{rows_cards, columns_cards, section_card, too_wide}

-- the lines of these cards in this form, in order
abbrev pub card_lines : Style → WrittenCards → List (Line (List ℕ))
card_lines style cards = map (λ card. Text (line_text style card)) cards

-- the reader goes over the lines of these cards from one state to another: whatever lines follow, the verdict is that
-- on these from the second state
pub record Goes (style : Style) (before : State) (cards : WrittenCards) (after : State) : Type 0 where
  pub goes : (n : ℕ) (more : List (Line (List ℕ))) →
      judge usual_limits style before n (card_lines style cards ++ more) ≡ judge usual_limits style after
      (n + length cards) more

-- the row with the right side 0 and without a range
abbrev pub bare_row : ExactRow → ExactRow
bare_row r = new_row r.kind r.name

-- the model fits the form: each does free form, and fixed form where no text of its data cards is too wide
abbrev pub Fits : Style → Model → Type 0
Fits Free m = Unit {0}
Fits Fixed m = too_wide m ≡ None

-- the state after the cards of ROWS: the model's objective, and its rows without right sides and ranges
abbrev pub with_rows_of : State → Model → State
with_rows_of s m = record (begun s section.Rows) { objective = Some m.objective; rows = map bare_row m.rows }

-- the state before ROWS: this section has not begun, and there is no objective and no row
pub record HasNoRows (s : State) : Type 0 where
  pub no_section : s.seen.rows ≡ false
  pub no_objective : s.objective ≡ None
  pub no_row : s.rows ≡ []

-- the cards of ROWS lead any state without rows to one with the model's objective and its rows, without right sides and
-- ranges
abbrev pub RowsAreRead : Style → Model → Type 0
RowsAreRead style m = (s : State) → HasNoRows s → Goes style s (rows_cards m) (with_rows_of s m)

-- the state after the heading NAME: it has this name
abbrev pub named : Name → State
named name = record (begun start section.Name) { name = name }

-- the state after the cards before ROWS: it has this name and this sense
abbrev pub with_start_of : Name → Sense → State
with_start_of name Min = named name
with_start_of name Max = record (begun (named name) section.Sense) { sense = Some Max }

-- the cards before ROWS lead from the start to a state with the model's name and sense
abbrev pub StartIsRead : Style → Model → Type 0
StartIsRead style m = Goes style start (name_card m.name ∷ sense_cards m.sense) (with_start_of m.name m.sense)

-- the line has no more bytes than may be kept, all of them spaces or printable
pub record IsPlainLine (line : List ℕ) : Type 0 where
  pub short : length line ≤ line_limit
  pub plain : list_all (λ b. nat_le 32 b && nat_le b 126) line ≡ true

-- where the line of each of these cards is plain and short, the lines of their text are these lines
abbrev pub HasItsLines : Style → WrittenCards → Type 0
HasItsLines style cards =
    All (λ card. IsPlainLine (line_text style card)) cards → lines_of (cards_text style cards) ≡ card_lines style cards

-- ---- COLUMNS, up to the heading of RHS, which makes the last column whole

-- the column with the usual bounds, 0 and none, in place of its own
abbrev pub bare_column : ExactColumn → ExactColumn
bare_column c = record c { lower = Some 0ℚ; upper = None }

-- the state before COLUMNS: it has the model's objective and its rows without right sides and ranges, and no column
pub record HasNoColumns (s : State) (m : Model) : Type 0 where
  pub rows_are_read : s.seen.rows ≡ true
  pub no_section : s.seen.columns ≡ false
  pub no_sides : s.seen.right_sides ≡ false
  pub objective : s.objective ≡ Some m.objective
  pub rows : s.rows ≡ map bare_row m.rows
  pub no_column : s.columns ≡ []
  pub none_open : s.column ≡ None
  pub none_lowered : s.lowered ≡ []

-- the state after the heading behind COLUMNS: it has the model's columns with the usual bounds
abbrev pub with_columns_of : State → Model → State
with_columns_of s m =
    record (begun (begun s section.Columns) section.RightSides)
    { columns = map bare_column m.columns; lowered = map (λ c. false) m.columns }

-- the cards of COLUMNS and the heading RHS give the model's columns with the usual bounds, from any state with its rows
-- and no column
abbrev pub ColumnsAreRead : Style → Model → Type 0
ColumnsAreRead style m =
    (s : State) → HasNoColumns s m →
    Goes style s (columns_cards m ++ section_card (codes "RHS") ∷ []) (with_columns_of s m)
