-- The text that a model is written as: its cards, and their lines in both forms.
use Rattle.std.specs.Prelude.{ℕ, ◌-◌, ◌==◌, ◌&&◌, ◌||◌, Bool, false, not, Option, Some, None, is_some, option_map}
use Rattle.std.specs.Prelude.{List, [], ◌∷◌, ◌++◌, length, replicate, map, find, nat_lt, codes, if◌then◌else◌}
use Rattle.std.specs.List.{list_any, flat_map}
use Rattle.spec_exact.specs.Fraction.{ℚ, 0ℚ, neg_ℚ, eq_ℚ, lt_ℚ}
use Rattle.spec_model.specs.declared.parts.Kind.{Kind}
use Rattle.spec_model.specs.declared.parts.Kind.TheVariants.{L, G, E, N}
use Rattle.spec_model.specs.declared.parts.Sense.{Sense}
use Rattle.spec_model.specs.declared.parts.Sense.TheVariants.{Min, Max}
use Rattle.spec_model.specs.Model.{Model, Name, ExactRow, ExactColumn, row}
use Rattle.spec_mps.specs.declared.style.Style.{Style}
use Rattle.spec_mps.specs.declared.style.Style.TheVariants.{Free, Fixed}
use Rattle.spec_mps.specs.Fields.{Field, Fields, field_of}
use Rattle.spec_mps.specs.NumberWritten.{number_text}

-- ---- cards

-- a section card, by what begins it and the fields after that, or a data card; fields have the numbers of fixed form
pub data WrittenCard : Type 0 where
  Head : (start : List ℕ) → (fields : Fields) → WrittenCard
  Data : (fields : Fields) → WrittenCard

-- the cards of a text, in their order
abbrev pub WrittenCards : Type 0
WrittenCards = List WrittenCard

-- field n with a text
abbrev pub field_at : ℕ → List ℕ → Field
field_at n text = record { number = n; text = text }

-- a section's heading that consists of this text alone
abbrev pub section_card : List ℕ → WrittenCard
section_card word = Head word []

-- a card of ROWS: a row's type and its name
abbrev pub type_card : List ℕ → Name → WrittenCard
type_card type name = Data (field_at 1 type ∷ field_at 2 name ∷ [])

-- a card with one number: the name of a column or a set, a row's name, and the number's text
abbrev pub number_card : Name → Name → ℚ → WrittenCard
number_card group name value = Data (field_at 2 group ∷ field_at 3 name ∷ field_at 4 (number_text value) ∷ [])

-- a card of BOUNDS with a number: a kind, the set BND, a column and the number's text
abbrev pub bound_card : List ℕ → Name → ℚ → WrittenCard
bound_card kind name value =
    Data (field_at 1 kind ∷ field_at 2 (codes "BND") ∷ field_at 3 name ∷ field_at 4 (number_text value) ∷ [])

-- a card of BOUNDS without a number: a kind, the set BND and a column
abbrev pub unbound_card : List ℕ → Name → WrittenCard
unbound_card kind name = Data (field_at 1 kind ∷ field_at 2 (codes "BND") ∷ field_at 3 name ∷ [])

-- the heading NAME, and behind it the model's name as field 3, if it has one
abbrev pub name_card : Name → WrittenCard
name_card name = Head (codes "NAME") (field_of 3 name)

-- the cards of a sense: one heading, OBJSENSE MAX, to maximize; none to minimize, which is usual
abbrev pub sense_cards : Sense → WrittenCards
sense_cards Min = []
sense_cards Max = section_card (codes "OBJSENSE MAX") ∷ []

-- the word of a row's kind
abbrev pub kind_word : Kind → List ℕ
kind_word L = codes "L"
kind_word G = codes "G"
kind_word E = codes "E"
kind_word N = codes "N"

-- the card of a row in ROWS: its kind and its name
abbrev pub row_card : ExactRow → WrittenCard
row_card r = type_card (kind_word r.kind) r.name

-- the section ROWS: the objective first, then the rows
unfoldable pub rows_cards : Model → WrittenCards
rows_cards m = section_card (codes "ROWS") ∷ type_card (codes "N") m.objective ∷ map row_card m.rows

-- the cards of a column: its cost, also where it is 0, and then each entry in the order of rows
abbrev pub column_cards : Model → ExactColumn → WrittenCards
column_cards m c = number_card c.name m.objective c.cost ∷ map (λ e. number_card c.name (row m e.0).name e.1) c.entries

-- the section COLUMNS, one column after the other
unfoldable pub columns_cards : Model → WrittenCards
columns_cards m = section_card (codes "COLUMNS") ∷ flat_map (column_cards m) m.columns

-- the card of RHS that gives the row of this name this right side, in the set RHS; no card where it is 0
abbrev pub side_cards : Name → ℚ → WrittenCards
side_cards name value = if eq_ℚ value 0ℚ then [] else number_card (codes "RHS") name value ∷ []

-- the section RHS: that of the objective, the negative of the offset, and those of the rows, without those that are 0
unfoldable pub sides_cards : Model → WrittenCards
sides_cards m =
    section_card (codes "RHS")
    ∷ (side_cards m.objective (neg_ℚ m.offset) ++ flat_map (λ r. side_cards r.name r.rhs) m.rows)

-- the card of RANGES that gives the row of this name its range, in the set RNG; no card where it has none
abbrev pub range_cards : Name → Option ℚ → WrittenCards
range_cards name None = []
range_cards name (Some v) = number_card (codes "RNG") name v ∷ []

-- whether a row has a range
abbrev pub has_range : ExactRow → Bool
has_range r = is_some r.range

-- the section RANGES with the range of each row that has one; no section where no row has one
unfoldable pub ranges_cards : Model → WrittenCards
ranges_cards m =
    if list_any has_range m.rows then section_card (codes "RANGES")
    ∷ flat_map (λ r. range_cards r.name r.range) m.rows else []

-- whether these bounds are the usual ones: 0 as the lower one, and no upper one
abbrev pub is_usual : Option ℚ → Option ℚ → Bool
is_usual None upper = false
is_usual (Some l) None = eq_ℚ l 0ℚ
is_usual (Some l) (Some u) = false

-- The cards of a column's bounds; none where they are 0 and none. FR is for no bounds, MI and UP for an upper one
-- alone, LO for a lower one alone, and FX for two equal ones. UP alone is for 0 and a positive one, else LO and UP for
-- both.
abbrev pub bound_cards : Name → Option ℚ → Option ℚ → WrittenCards
bound_cards name None None = unbound_card (codes "FR") name ∷ []
bound_cards name None (Some u) = unbound_card (codes "MI") name ∷ bound_card (codes "UP") name u ∷ []
bound_cards name (Some l) None = if eq_ℚ l 0ℚ then [] else bound_card (codes "LO") name l ∷ []
bound_cards name (Some l) (Some u) =
    if eq_ℚ l u then bound_card (codes "FX") name l ∷ []
    else (if eq_ℚ l 0ℚ && lt_ℚ 0ℚ u then bound_card (codes "UP") name u
    ∷ [] else bound_card (codes "LO") name l ∷ bound_card (codes "UP") name u ∷ [])

-- whether a column has other bounds than the usual ones
abbrev pub has_bounds : ExactColumn → Bool
has_bounds c = not (is_usual c.lower c.upper)

-- the section BOUNDS with each column whose bounds are not the usual ones; no section where all are usual
unfoldable pub bounds_cards : Model → WrittenCards
bounds_cards m =
    if list_any has_bounds m.columns then section_card (codes "BOUNDS")
    ∷ flat_map (λ c. bound_cards c.name c.lower c.upper) m.columns else []

-- the cards of a model, section by section
unfoldable pub cards_of : Model → WrittenCards
cards_of m =
    name_card m.name ∷ sense_cards m.sense ++ rows_cards m
    ++ columns_cards m ++ sides_cards m ++ ranges_cards m ++ bounds_cards m
    ++ section_card (codes "ENDATA") ∷ []

-- ---- lines

-- the column of fixed form in which field n begins
abbrev pub first_column : ℕ → ℕ
first_column n =
    if n == 1 then 2
    else (if n == 2 then 5 else (if n == 3 then 15 else (if n == 4 then 25 else (if n == 5 then 40 else 50))))

-- the most bytes that field n of fixed form holds
abbrev pub field_width : ℕ → ℕ
field_width n = if n == 1 then 2 else (if n == 4 || n == 6 then 12 else 8)

-- the line up to where field n begins: in free form with one blank behind it, in fixed form with blanks up to the
-- field's first column
abbrev pub padded : Style → ℕ → List ℕ → List ℕ
padded Free n line = line ++ 32 ∷ []
padded Fixed n line = line ++ replicate (first_column n - 1 - length line) 32

-- a line with these fields behind it
abbrev pub with_fields : Style → List ℕ → Fields → List ℕ
with_fields style line [] = line
with_fields style line (f ∷ fs) = with_fields style (padded style f.number line ++ f.text) fs

-- the bytes of a card's line in this form, without a line feed
abbrev pub line_text : Style → WrittenCard → List ℕ
line_text style (Head start fields) = with_fields style start fields
line_text style (Data fields) = with_fields style [] fields

-- the text of cards: the line of each, with a line feed behind it
abbrev pub cards_text : Style → WrittenCards → List ℕ
cards_text style cards = flat_map (λ card. line_text style card ++ 10 ∷ []) cards

-- the text of a model in free form
unfoldable pub free : Model → List ℕ
free m = cards_text Free (cards_of m)

-- the text of a model in fixed form
unfoldable pub fixed : Model → List ℕ
fixed m = cards_text Fixed (cards_of m)

-- ---- what fixed form has no place for

-- whether a field has more bytes than fixed form has room for
abbrev pub is_wide : Field → Bool
is_wide f = nat_lt (field_width f.number) (length f.text)

-- the fields of a data card; none of a heading
abbrev pub data_fields : WrittenCard → Fields
data_fields (Head start fields) = []
data_fields (Data fields) = fields

-- the text of the first field on these cards that fixed form has no room for, headings left out; none if all fit
abbrev pub first_wide : WrittenCards → Option (List ℕ)
first_wide cards = option_map (λ f. f.text) (find is_wide (flat_map data_fields cards))

-- the first text on a model's cards, headings left out, that fixed form has no room for; none if all fit
unfoldable pub too_wide : Model → Option (List ℕ)
too_wide m = first_wide (cards_of m)
