-- The whole section ROWS of a written text.
use Rattle.std.proofs.Common.{◌≡◌, ◌≤◌, true, Some, None, List, [], ◌∷◌, ◌++◌, length, map, refl, sym, ap, subst, arith}
use Rattle.std.specs.Prelude.{codes}
use Rattle.std.specs.List.{flat_map}
use borrow.Author.Tests.{ltb-false}
use Rattle.spec_model.specs.Model.{Name, Model, ExactRow}
use Rattle.spec_model.specs.Kept.{IsUsualModel, is_row_name, row_limit}
use Rattle.spec_model.specs.declared.parts.Kind.TheVariants.{N}
use Rattle.spec_mps.specs.declared.style.Style.{Style}
use Rattle.spec_mps.specs.declared.style.Style.TheVariants.{Free, Fixed}
use Rattle.spec_mps.specs.declared.section.Section.TheVariants as section
use Rattle.spec_mps.specs.Shapes.{row_type_of}
use Rattle.spec_mps.specs.Reader.{State, place_of}
use Rattle.spec_mps.specs.Steps.{begun}
use Rattle.spec_mps.specs.Written.{rows_cards}
use Rattle.spec_mps.specs.Written.{section_card}
use Rattle.spec_mps.specs.Written.{type_card, row_card, field_at, data_fields}
use Rattle.spec_mps.proofs.WrittenCards.{IsItem}
use Rattle.spec_mps.proofs.WrittenSteps.{Fits, Goes, HasNoRows, RowsAreRead, bare_row, with_rows_of}
use Rattle.spec_mps.proofs.WrittenHeadings.{rows_step}
use Rattle.spec_mps.proofs.WrittenRows.{AreFresh, goes_one, goes_then, type_step, objective_added, rows_go, names_of}
use Rattle.spec_mps.proofs.WrittenRoom.{room_of}
use Rattle.spec_mps.proofs.WrittenNames.{row_name_word, fresh_names}
use Rattle.spec_mps.proofs.WrittenNames.{field_narrow, RoomForRows, rows_known}

-- the objective's card has room, and so have those of the rows
room_for_rows : (style : Style) (m : Model) → is_row_name m.objective ≡ true → Fits style m →
    IsItem style 8 m.objective × RoomForRows style m.rows
unfolding rows_cards
room_for_rows Free m h fits = (record { word = row_name_word m.objective h; room = tt }, tt)
room_for_rows Fixed m h fits =
    let rest = flat_map data_fields (map row_card m.rows) in
    let a = field_narrow (field_at 1 (codes "N")) (field_at 2 m.objective ∷ rest) (room_of Fixed m fits).rows in
    let b = field_narrow (field_at 2 m.objective) rest a.1 in
    (record { word = row_name_word m.objective h; room = ltb-false 8 (length m.objective) b.0 }, b.1)

-- the type N is a word that has room in field 1
type_item : (style : Style) → IsItem style 2 (codes "N")
type_item Free = record { word = record { some = refl; printable = refl }; room = tt }
type_item Fixed = record { word = record { some = refl; printable = refl }; room = omega arith }

-- the type N is read as the kind N
type_known : row_type_of (codes "N") ≡ Some N
unfolding row_type_of
type_known = refl

-- before all cards of ROWS a name stands for no target
nowhere : (s : State) (name : Name) → HasNoRows s → place_of (begun s section.Rows) name ≡ None
unfolding place_of
nowhere s name h = rw (h.no_objective, h.no_row) refl

-- the section ROWS of a usual model that fits the form is read as its objective and rows
pub rows_are_read : (style : Style) (m : Model) → IsUsualModel m → Fits style m → RowsAreRead style m
unfolding rows_cards
rows_are_read style m kept fits s none =
    let one : State = begun s section.Rows in
    let two : State = record one { objective = Some m.objective } in
    let room = room_for_rows style m kept.0.objective fits in
    let heading : Goes style s (section_card (codes "ROWS") ∷ []) one =
    goes_one style s one (section_card (codes "ROWS")) (rows_step style s none.no_section) in
    let objective : Goes style one (type_card (codes "N") m.objective ∷ []) two =
    goes_one style one two (type_card (codes "N") m.objective)
    (type_step style one two (codes "N") m.objective N refl (type_item style) room.0 type_known
    (objective_added one m.objective none.no_objective kept.0.objective (nowhere s m.objective none))) in
    let F : List ExactRow → Type 0 = λ rows. AreFresh (m.objective ∷ names_of rows) (names_of m.rows) in
    let P : List ExactRow → Type 0 =
    λ rows. Goes style two (map row_card m.rows) (record two { rows = rows ++ map bare_row m.rows }) in
    let short : length s.rows ≡ 0 = ap length none.no_row in
    let few : length m.rows ≤ row_limit = kept.1.few_rows in
    let rows : Goes style two (map row_card m.rows) (with_rows_of s m) =
    subst P none.no_row
    (rows_go style two m.objective m.rows refl refl (rows_known style m.rows kept.0.rows room.1)
    (subst F (sym none.no_row) (fresh_names m.objective (names_of m.rows) kept.0.rows_distinct)) (omega arith)) in
    goes_then style s one (with_rows_of s m) (section_card (codes "ROWS"))
    (type_card (codes "N") m.objective ∷ map row_card m.rows) heading
    (goes_then style one two (with_rows_of s m)
    (type_card (codes "N") m.objective) (map row_card m.rows) objective rows)
