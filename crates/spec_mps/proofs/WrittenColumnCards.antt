-- Reading one card of COLUMNS of a written text.
--
-- `column_card_goes`: a written card of a column is read: it opens or continues its column and enters the number.
-- `opened_new`: a column whose name is not taken is opened where there is room, and the one before it is whole.
-- `opened_open`: a card of the column that is open already leaves the state as it is.
-- `entered`: a number of the objective or a row that had none in this column goes into the open column.
use Rattle.std.proofs.Common.{◌≡◌, ℕ, ◌<◌, true, false, not, Option, Some}
use Rattle.std.proofs.Common.{Ok, List, [], ◌∷◌, ◌++◌, length, refl, ap, ◌∙◌}
use Rattle.std.specs.Prelude.{codes}
use Rattle.std.specs.List.{list_any}
use Rattle.std.proofs.lemmas.Bool.{and_parts, not-true}
use borrow.Author.Tests.{lt-ltb}
use Rattle.spec_text.specs.Words.{same}
use Rattle.spec_exact.specs.Fraction.{ℚ}
use Rattle.spec_exact.specs.Narrow.{IsNarrow}
use Rattle.spec_model.specs.Model.{Name, ExactColumn}
use Rattle.spec_model.specs.Kept.{is_name, is_row_name, usual_limits, column_limit}
use Rattle.spec_mps.specs.declared.card.Card.TheVariants.{Given}
use Rattle.spec_mps.specs.declared.style.Style.{Style}
use Rattle.spec_mps.specs.declared.style.Style.TheVariants.{Free, Fixed}
use Rattle.spec_mps.specs.declared.section.Section.{Section}
use Rattle.spec_mps.specs.declared.section.Section.TheVariants as section
use Rattle.spec_mps.specs.declared.target.Target.{Target}
use Rattle.spec_mps.specs.Fields.{Is}
use Rattle.spec_mps.specs.Shapes.{shaped, has_shape}
use Rattle.spec_mps.specs.NumberWritten.{number_text}
use Rattle.spec_mps.specs.Reader.{State, place_of, is_among, new_column, whole_columns, is_open}
use Rattle.spec_mps.specs.Reader.{opened, with_number, enter, column_pair, columns_card}
use Rattle.spec_mps.specs.Steps.{more, data_card, step, on_reading, reading_of}
use Rattle.spec_mps.specs.Written.{line_text, number_card}
use Rattle.spec_mps.proofs.WrittenCards.{IsItem, read_as}
use Rattle.spec_mps.proofs.WrittenSteps.{Goes}
use Rattle.spec_mps.proofs.WrittenBack.{cards_are_read_back}
use Rattle.spec_mps.proofs.WrittenRows.{goes_one}
use Rattle.spec_mps.proofs.WrittenParts.{number_fields}
use Rattle.spec_mps.proofs.WrittenPlaces.{number_is_in}

-- a written card of COLUMNS is read as its column, its name and the text of its number
read_number : (style : Style) (part : Option Section) (group name : Name) (value : ℚ) →
    part ≡ Some section.Columns → IsItem style 8 group → IsItem style 8 name → IsItem style 12 (number_text value)
    → reading_of style part (line_text style (number_card group name value))
    ≡ Is (Given (read_as style (number_fields group name (number_text value))))
read_number Free part group name value e h k l =
    ((cards_are_read_back Free).numbers group name (number_text value) h k l).read
read_number Fixed part group name value e h k l =
    ap (λ p. reading_of Fixed p (line_text Fixed (number_card group name value))) e
    ∙ ((cards_are_read_back Fixed).numbers group name (number_text value) h k l).read

-- a column, a name and a text of a number are of the shape of COLUMNS
has_number_shape : (style : Style) (group name text : List ℕ) →
    shaped style section.Columns (read_as style (number_fields group name text)) ≡ Ok (group ∷ name ∷ text ∷ [])
unfolding shaped has_shape
has_number_shape Free group name text = refl
has_number_shape Fixed group name text = refl

-- a row's name marks no columns
no_marker : (name : Name) → is_row_name name ≡ true → same name (codes "'MARKER'") ≡ false
unfolding is_row_name
no_marker name h = not-true (same name (codes "'MARKER'")) (and_parts (is_name name) (not (same name (codes "'MARKER'"))) h).1

-- a card of COLUMNS opens its column, and then enters its pair
columns_read : (style : Style) (s t u : State) (group name text : List ℕ) → is_name group ≡ true →
    is_row_name name ≡ true → opened usual_limits s group ≡ Ok t → column_pair t name text ≡ Ok u
    → columns_card usual_limits style s (read_as style (number_fields group name text)) ≡ Ok u
unfolding columns_card
columns_read Free s t u group name text g n o p =
    rw (no_marker name n, has_number_shape Free group name text, g, o, p) refl
columns_read Fixed s t u group name text g n o p =
    rw (no_marker name n, has_number_shape Fixed group name text, g, o, p) refl

-- a pair of a known name and a number's text enters that number there
pair_read : (s u : State) (name : Name) (value : ℚ) (t : Target) → place_of s name ≡ Some t → IsNarrow value →
    enter s t value ≡ Ok u → column_pair s name (number_text value) ≡ Ok u
unfolding column_pair
pair_read s u name value t p n e = rw (p, number_is_in value n, e) refl

-- what a written card of COLUMNS needs to be read: COLUMNS is here, both names are valid and have room, and so has the
-- number, of at most 127 bits
pub record IsColumnCard (style : Style) (s : State) (group name : Name) (value : ℚ) : Type 0 where
  pub part : s.part ≡ Some section.Columns
  pub group_item : IsItem style 8 group
  pub name_item : IsItem style 8 name
  pub number_item : IsItem style 12 (number_text value)
  pub group_name : is_name group ≡ true
  pub row_name : is_row_name name ≡ true
  pub narrow : IsNarrow value

pub column_card_goes : (style : Style) (s t u : State) (group name : Name) (value : ℚ) (target : Target) →
    IsColumnCard style s group name value → opened usual_limits s group ≡ Ok t → place_of t name ≡ Some target
    → enter t target value ≡ Ok u → Goes style s (number_card group name value ∷ []) u
unfolding step
column_card_goes style s t u group name value target c o p e =
    goes_one style s u (number_card group name value)
    (ap (on_reading usual_limits style s) (read_number style s.part group name value c.part c.group_item c.name_item
    c.number_item)
    ∙ ap (λ part. more (data_card usual_limits style part s (read_as style (number_fields group name
    (number_text value))))) c.part
    ∙ ap more (columns_read style s t u group name (number_text value) c.group_name c.row_name o
    (pair_read t u name value target p c.narrow e)))

-- ---- the column

pub opened_new : (s : State) (name : Name) → is_open s.column name ≡ false →
    list_any (λ c. same c.name name) (whole_columns s) ≡ false → length (whole_columns s) < column_limit
    → opened usual_limits s name ≡ Ok (record s {
      columns = whole_columns s;
      column = Some (new_column name);
      lowered = s.lowered ++ false ∷ [];
      paired = [];
    })
unfolding opened
opened_new s name h k few = rw (h, k, lt-ltb (length (whole_columns s)) column_limit few) refl

pub opened_open : (s : State) (name : Name) → is_open s.column name ≡ true → opened usual_limits s name ≡ Ok s
unfolding opened
opened_open s name h = rw h refl

pub entered : (s : State) (c : ExactColumn) (t : Target) (value : ℚ) → s.column ≡ Some c → is_among t s.paired ≡ false
    → enter s t value ≡ Ok (record s { column = Some (with_number c t value); paired = t ∷ s.paired })
unfolding enter
entered s c t value e h = rw (h, e) refl
