-- The cards of ROWS of a written text are read as the model's rows.
--
-- `goes_one`: where one step of the reader leads on to a state, the card of that line leads there.
-- `goes_none`: no cards leave the state as it is.
-- `goes_then`: where a card leads to a state and more cards on from it, all of them lead to the last state.
-- `type_step`: the line of a card with a type and a name adds that row, where the type is known.
-- `row_goes`: a card of a new row with a valid name and room adds this row without its numbers.
-- `objective_added`: the first row of type N with a new valid name becomes the objective.
-- `rows_go`: the cards of rows with fresh valid names and room add these rows in their order.
use Rattle.std.proofs.Common.{◌≡◌, ℕ, ◌+◌, ◌<◌, ◌≤◌, true, false, Option, Some, None, Ok, List, [], ◌∷◌}
use Rattle.std.proofs.Common.{◌++◌, length, map, refl, sym, ap, ◌∙◌, subst, append_assoc, length-append, arith}
use Rattle.std.specs.List.{list_any, position, position_or_len}
use Rattle.std.proofs.lemmas.List.{append-nil, map-append}
use Rattle.std.proofs.lemmas.Bool.{or_parts}
use borrow.Author.Tests.{lt-ltb, le-ltb}
use Rattle.spec_text.specs.declared.line.Line.TheVariants.{Text}
use Rattle.spec_text.specs.Words.{same}
use Rattle.spec_model.specs.declared.parts.Kind.{Kind}
use Rattle.spec_model.specs.declared.parts.Kind.TheVariants.{L, G, E, N}
use Rattle.spec_model.specs.Model.{Name, ExactRow}
use Rattle.spec_model.specs.Kept.{is_row_name, usual_limits, row_limit}
use Rattle.spec_mps.specs.declared.card.Card.TheVariants.{Given}
use Rattle.spec_mps.specs.declared.style.Style.{Style}
use Rattle.spec_mps.specs.declared.style.Style.TheVariants.{Free, Fixed}
use Rattle.spec_mps.specs.declared.section.Section.{Section}
use Rattle.spec_mps.specs.declared.section.Section.TheVariants as section
use Rattle.spec_mps.specs.Fields.{Fields, Is}
use Rattle.spec_mps.specs.Shapes.{row_type_of, shaped, has_shape}
use Rattle.spec_mps.specs.Reader.{State, place_of, new_row, add_row, rows_card}
use Rattle.spec_mps.specs.Steps.{More, more, data_card, step, on_reading, reading_of, judge, settled}
use Rattle.spec_mps.specs.Written.{WrittenCard, WrittenCards, field_at, kind_word, row_card, type_card, line_text}
use Rattle.spec_mps.proofs.WrittenCards.{IsItem}
use Rattle.spec_mps.proofs.WrittenSteps.{Goes, card_lines, bare_row}
use Rattle.spec_mps.proofs.WrittenBack.{cards_are_read_back}

-- ---- cards one after another

pub goes_one : (style : Style) (s t : State) (card : WrittenCard) →
    step usual_limits style s (Text (line_text style card)) ≡ Ok (More t) → Goes style s (card ∷ []) t
goes_one style s t card h = record { goes = λ n rest. ap (settled n (λ u. judge usual_limits style u (n + 1) rest)) h }

pub goes_none : (style : Style) (s : State) → Goes style s [] s
goes_none style s = record { goes = λ n rest. ap (λ k. judge usual_limits style s k rest) (omega arith) }

pub goes_then : (style : Style) (s t u : State) (card : WrittenCard) (cards : WrittenCards) →
    Goes style s (card ∷ []) t → Goes style t cards u → Goes style s (card ∷ cards) u
goes_then style s t u card cards h k =
    record {
      goes =
          λ n rest. h.goes n (card_lines style cards ++ rest)
          ∙ k.goes (n + 1) rest ∙ ap (λ i. judge usual_limits style u i rest) (omega arith);
    }

-- ---- one row

-- the fields of a written card of ROWS: the type and the name
abbrev pub type_fields : List ℕ → Name → Fields
type_fields type name = field_at 1 type ∷ field_at 2 name ∷ []

-- a written card of ROWS is read as its type and its name
read_type : (style : Style) (part : Option Section) (type : List ℕ) (name : Name) →
    part ≡ Some section.Rows → IsItem style 2 type → IsItem style 8 name
    → reading_of style part (line_text style (type_card type name)) ≡ Is (Given (type_fields type name))
read_type Free part type name e h k = ((cards_are_read_back Free).types type name h k).read
read_type Fixed part type name e h k =
    ap (λ p. reading_of Fixed p (line_text Fixed (type_card type name))) e
    ∙ ((cards_are_read_back Fixed).types type name h k).read

-- a type and a name are of the shape of ROWS
has_type_shape : (style : Style) (type : List ℕ) (name : Name) →
    shaped style section.Rows (type_fields type name) ≡ Ok (type ∷ name ∷ [])
unfolding shaped has_shape
has_type_shape Free type name = refl
has_type_shape Fixed type name = refl

-- a card of ROWS with a known type adds its row
type_read : (style : Style) (s t : State) (type : List ℕ) (name : Name) (kind : Kind) →
    row_type_of type ≡ Some kind → add_row usual_limits s kind name ≡ Ok t →
    rows_card usual_limits style s (type_fields type name) ≡ Ok t
unfolding rows_card
type_read style s t type name kind known added = rw (has_type_shape style type name, known, added) refl

pub type_step : (style : Style) (s t : State) (type : List ℕ) (name : Name) (kind : Kind) →
    s.part ≡ Some section.Rows → IsItem style 2 type → IsItem style 8 name → row_type_of type ≡ Some kind
    → add_row usual_limits s kind name ≡ Ok t → step usual_limits style s
    (Text (line_text style (type_card type name))) ≡ Ok (More t)
unfolding step
type_step style s t type name kind e h k known added =
    ap (on_reading usual_limits style s) (read_type style s.part type name e h k)
    ∙ ap (λ p. more (data_card usual_limits style p s (type_fields type name))) e
    ∙ ap more (type_read style s t type name kind known added)

-- the word of each kind of rows is a word that has room in field 1
kind_item : (style : Style) (kind : Kind) → IsItem style 2 (kind_word kind)
kind_item Free L = record { word = record { some = refl; printable = refl }; room = tt }
kind_item Free G = record { word = record { some = refl; printable = refl }; room = tt }
kind_item Free E = record { word = record { some = refl; printable = refl }; room = tt }
kind_item Free N = record { word = record { some = refl; printable = refl }; room = tt }
kind_item Fixed L = record { word = record { some = refl; printable = refl }; room = omega arith }
kind_item Fixed G = record { word = record { some = refl; printable = refl }; room = omega arith }
kind_item Fixed E = record { word = record { some = refl; printable = refl }; room = omega arith }
kind_item Fixed N = record { word = record { some = refl; printable = refl }; room = omega arith }

-- the word of each kind of rows is read as that kind
kind_known : (kind : Kind) → row_type_of (kind_word kind) ≡ Some kind
unfolding row_type_of
kind_known L = refl
kind_known G = refl
kind_known E = refl
kind_known N = refl

-- a row of a new valid name is added last where there is room
row_added : (s : State) (objective : Name) (kind : Kind) (name : Name) → s.objective ≡ Some objective →
    is_row_name name ≡ true → place_of s name ≡ None → length s.rows < row_limit →
    add_row usual_limits s kind name ≡ Ok (record s { rows = s.rows ++ new_row kind name ∷ [] })
unfolding add_row
row_added s objective kind name o h k few = rw (h, k, o, lt-ltb (length s.rows) row_limit few) refl

pub row_goes : (style : Style) (s : State) (objective : Name) (r : ExactRow) → s.part ≡ Some section.Rows →
    s.objective ≡ Some objective → IsItem style 8 r.name → is_row_name r.name ≡ true → place_of s r.name ≡ None →
    length s.rows < row_limit → Goes style s (row_card r ∷ []) (record s { rows = s.rows ++ bare_row r ∷ [] })
row_goes style s objective r e o item name free few =
    goes_one style s (record s { rows = s.rows ++ bare_row r ∷ [] }) (row_card r)
    (type_step style s (record s { rows = s.rows ++ bare_row r ∷ [] }) (kind_word r.kind) r.name r.kind e
    (kind_item style r.kind) item (kind_known r.kind) (row_added s objective r.kind r.name o name free few))

-- ---- the objective

pub objective_added : (s : State) (name : Name) → s.objective ≡ None → is_row_name name ≡ true →
    place_of s name ≡ None → add_row usual_limits s N name ≡ Ok (record s { objective = Some name })
unfolding add_row
objective_added s name none h k = rw (h, k, none) refl

-- ---- all rows

-- the name is none of these names
abbrev pub IsAbsent : Name → List Name → Type 0
IsAbsent name names = list_any (λ n. same n name) names ≡ false

-- each of the second names is none of the first ones, nor of those before it
abbrev pub AreFresh : List Name → List Name → Type 0
AreFresh seen [] = Unit {0}
AreFresh seen (name ∷ names) = IsAbsent name seen × AreFresh (seen ++ name ∷ []) names

-- the names of rows, in order
abbrev pub names_of : List ExactRow → List Name
names_of rows = map (λ r. r.name) rows

-- the first place of a name that no row has is the number of rows
all_past : (rows : List ExactRow) (name : Name) → IsAbsent name (names_of rows) →
    position_or_len (λ r. same r.name name) rows ≡ length rows
all_past [] name h = refl
all_past (r ∷ rows) name h =
    let p = or_parts (same r.name name) (list_any (λ n. same n name) (names_of rows)) h in
    rw (p.0, all_past rows name p.1) (omega arith)

-- a search for a name that no row has finds nothing
position_absent : (rows : List ExactRow) (name : Name) → IsAbsent name (names_of rows) →
    position (λ r. same r.name name) rows ≡ None
position_absent rows name h = rw (all_past rows name h, le-ltb (length rows) (length rows) (omega arith)) refl

-- a name that neither the objective nor a row has stands for no target
place_absent : (s : State) (objective name : Name) → s.objective ≡ Some objective →
    IsAbsent name (objective ∷ names_of s.rows) → place_of s name ≡ None
unfolding place_of
place_absent s objective name e h =
    let p = or_parts (same objective name) (list_any (λ n. same n name) (names_of s.rows)) h in
    rw (e, p.0, position_absent s.rows name p.1) refl

-- each row's name is valid, and is a word with room in a field of 8 bytes
abbrev pub AreRows : Style → List ExactRow → Type 0
AreRows style [] = Unit {0}
AreRows style (r ∷ rows) = IsItem style 8 r.name × (is_row_name r.name ≡ true) × AreRows style rows

-- one more row that is read adds its name behind the others
names_next : (objective : Name) (rows : List ExactRow) (r : ExactRow) →
    (objective ∷ names_of rows) ++ r.name ∷ [] ≡ objective ∷ names_of (rows ++ bare_row r ∷ [])
names_next objective rows r = ap (λ l. objective ∷ l) (sym (map-append (λ q. q.name) rows (bare_row r ∷ [])))

pub rows_go : (style : Style) (s : State) (objective : Name) (rows : List ExactRow) →
    s.part ≡ Some section.Rows → s.objective ≡ Some objective → AreRows style rows
    → AreFresh (objective ∷ names_of s.rows) (names_of rows) → length s.rows + length rows ≤ row_limit →
    Goes style s (map row_card rows) (record s { rows = s.rows ++ map bare_row rows })
rows_go style s objective [] e o known fresh few =
    let P : List ExactRow → Type 0 = λ rs. Goes style s [] (record s { rows = rs }) in
    subst P (sym (append-nil s.rows)) (goes_none style s)
rows_go style s objective (r ∷ rows) e o known fresh few =
    let t : State = record s { rows = s.rows ++ bare_row r ∷ [] } in
    let long : length t.rows ≡ length s.rows + 1 = length-append s.rows (bare_row r ∷ []) in
    let F : List Name → Type 0 = λ seen. AreFresh seen (names_of rows) in
    let P : List ExactRow → Type 0 = λ rs. Goes style t (map row_card rows) (record s { rows = rs }) in
    let one : Goes style s (row_card r ∷ []) t =
    row_goes style s objective r e o known.0 known.1 (place_absent s objective r.name o fresh.0) (omega arith) in
    let rest : Goes style t (map row_card rows) (record s { rows = t.rows ++ map bare_row rows }) =
    rows_go style t objective rows e o known.2 (subst F (names_next objective s.rows r) fresh.1) (omega arith) in
    goes_then style s t (record s { rows = s.rows ++ map bare_row (r ∷ rows) }) (row_card r)
    (map row_card rows) one (subst P (append_assoc s.rows (bare_row r ∷ []) (map bare_row rows)) rest)
