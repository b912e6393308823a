-- The whole section COLUMNS of a written text, and the heading after it.
use Rattle.std.proofs.Common.{◌≡◌, ◌≢◌, ℕ, suc, ◌+◌, ◌<◌, ◌≤◌, ◌||◌, Bool, true, false, Option}
use Rattle.std.proofs.Common.{Some, None, Ok, List, [], ◌∷◌, ◌++◌, length, map, refl, sym}
use Rattle.std.proofs.Common.{ap, ◌∙◌, subst, subst₂, append_assoc, length-append, arith}
use Rattle.std.specs.Prelude.{codes}
use Rattle.std.specs.List.{All, list_any, flat_map}
use Rattle.std.proofs.lemmas.List.{append-nil, map-append}
use Rattle.std.proofs.lemmas.List.Folds.{list_any-append}
use Rattle.spec_text.specs.Words.{same}
use Rattle.spec_exact.specs.Fraction.{ℚ, 0ℚ}
use Rattle.spec_model.specs.Model.{Model, Name, ExactColumn, no_row, row}
use Rattle.spec_model.specs.Kept.{IsModel, IsUsualModel, IsKeptColumn, IsNarrowColumn, is_name, is_row_name}
use Rattle.spec_model.specs.Kept.{column_limit}
use Rattle.spec_mps.specs.declared.style.Style.{Style}
use Rattle.spec_mps.specs.declared.section.Section.TheVariants as section
use Rattle.spec_mps.specs.declared.target.Target.{Target}
use Rattle.spec_mps.specs.declared.target.Target.TheVariants.{Objective, Row}
use Rattle.spec_mps.specs.Checks.{Check}
use Rattle.spec_mps.specs.Reader.{State, new_column, columns_with, is_open}
use Rattle.spec_mps.specs.Steps.{begun}
use Rattle.spec_mps.specs.Written.{WrittenCard, WrittenCards, columns_cards, column_cards, number_card, section_card}
use Rattle.spec_mps.proofs.WrittenSteps.{Fits, Goes, ColumnsAreRead, bare_column, with_columns_of}
use Rattle.spec_mps.proofs.WrittenGoes.{goes_append}
use Rattle.spec_mps.proofs.WrittenHeadings.{columns_step, sides_step}
use Rattle.spec_mps.proofs.WrittenRows.{goes_one, goes_none, goes_then, AreFresh}
use Rattle.spec_mps.proofs.WrittenNames.{name_word, row_name_word, fresh}
use Rattle.spec_mps.proofs.WrittenNumbers.{number_word}
use Rattle.spec_mps.proofs.WrittenPlaces.{same_itself, HasRowsOf, objective_place, row_place}
use Rattle.spec_mps.proofs.WrittenRoom.{RoomFor, card_room, room_front, room_back, room_for_columns}
use Rattle.spec_mps.proofs.WrittenColumnCards.{IsColumnCard, column_card_goes, opened_new, opened_open, entered}
use Rattle.spec_mps.proofs.WrittenEntries.{Ascend, entries_ascend, AreBelow, ArePaired, below_more}
use Rattle.spec_mps.proofs.WrittenEntries.{below_push, paired_more, not_paired, entry_put}

-- ---- states in COLUMNS

-- the state is in COLUMNS and has the model's rows, and RHS has not begun
record IsWithin (m : Model) (s : State) : Type 0 where
  part : s.part ≡ Some section.Columns
  rows : HasRowsOf m s
  begun : s.seen.columns ≡ true
  no_sides : s.seen.right_sides ≡ false

-- a state with these whole columns, this open column, these notes of lower bounds, and these targets that have a number
abbrev at : State → List ExactColumn → Option ExactColumn → List Bool → List Target → State
at s columns column lowered paired = record s { columns = columns; column = column; lowered = lowered; paired = paired }

-- a state with a model's rows has them with any columns and targets that have a number
rows_at : (m : Model) (s : State) (columns : List ExactColumn)
    (column : Option ExactColumn) (lowered : List Bool) (paired : List Target) →
    HasRowsOf m s → HasRowsOf m (at s columns column lowered paired)
rows_at m s columns column lowered paired h =
    record { objective = h.objective; rows = h.rows }

-- ---- the entries of a column

-- a column with some of its entries
abbrev with_entries : ExactColumn → List (ℕ × ℚ) → ExactColumn
with_entries c es = record (bare_column c) { entries = es }

-- the targets that have a number, with the rows of these entries before them
abbrev paired_by : List Target → List (ℕ × ℚ) → List Target
paired_by paired [] = paired
paired_by paired (e ∷ es) = paired_by (Row e.0 ∷ paired) es

-- the card of a column's entry: the names of the column and the row, and the value
abbrev entry_card : Model → ExactColumn → ℕ × ℚ → WrittenCard
entry_card m c e = number_card c.name (row m e.0).name e.1

-- reading the written card of an entry adds the entry behind the current column's other entries
entry_goes : (style : Style) (m : Model) (s : State) (c : ExactColumn) (columns : List ExactColumn)
    (lowered : List Bool) (es : List (ℕ × ℚ)) (e : ℕ × ℚ) (paired : List Target) → IsModel m → IsWithin m s
    → e.0 < length m.rows →
    IsColumnCard style (at s columns (Some (with_entries c es)) lowered paired) c.name (row m e.0).name e.1 →
    e.1 ≢ 0ℚ → AreBelow e.0 es → ArePaired e.0 paired
    → Goes style (at s columns (Some (with_entries c es)) lowered paired) (entry_card m c e ∷ [])
    (at s columns (Some (with_entries c (es ++ e ∷ []))) lowered (Row e.0 ∷ paired))
entry_goes style m s c columns lowered es e paired kept within inside card z below p =
    let before : State = at s columns (Some (with_entries c es)) lowered paired in
    let after : ExactColumn → Check State = λ d. Ok (at s columns (Some d) lowered (Row e.0 ∷ paired)) in
    column_card_goes style before before (at s columns (Some (with_entries c (es ++ e ∷ []))) lowered
    (Row e.0 ∷ paired)) c.name (row m e.0).name e.1 (Row e.0) card
    (opened_open before c.name (same_itself c.name))
    (row_place m before e.0 kept (rows_at m s columns (Some (with_entries c es)) lowered paired within.rows) inside)
    (entered before (with_entries c es) (Row e.0) e.1 refl (not_paired e.0 paired p)
    ∙ ap after (entry_put (bare_column c) es e z below))

-- reading the written cards of entries adds the entries behind the current column's other entries
entries_go : (style : Style) (m : Model) (s : State) (c : ExactColumn) (columns : List ExactColumn)
    (lowered : List Bool) (low : ℕ) (es rest : List (ℕ × ℚ)) (paired : List Target) →
    IsModel m → IsWithin m s → is_name c.name ≡ true
    → Ascend (length m.rows) low rest → AreBelow low es →
    ArePaired low paired → RoomFor style (map (entry_card m c) rest)
    → Goes style (at s columns (Some (with_entries c es)) lowered paired) (map (entry_card m c) rest)
    (at s columns (Some (with_entries c (es ++ rest))) lowered (paired_by paired rest))
entries_go style m s c columns lowered low es [] paired kept within named ascend below p room =
    let P : List (ℕ × ℚ) → Type 0 =
    λ l. Goes style (at s columns (Some (with_entries c es)) lowered paired) []
    (at s columns (Some (with_entries c l)) lowered paired) in
    subst P (sym (append-nil es)) (goes_none style (at s columns (Some (with_entries c es)) lowered paired))
entries_go style m s c columns lowered low es (e ∷ rest) paired kept within named ascend below p room =
    let next = ascend.0 in
    let above : low ≤ e.0 = next.above in
    let inside : e.0 < length m.rows = next.inside in
    let rooms = card_room style c.name (row m e.0).name e.1 (map (entry_card m c) rest) room in
    let row_named : is_row_name (row m e.0).name ≡ true = kept.rows e.0 no_row inside in
    let before : State = at s columns (Some (with_entries c es)) lowered paired in
    let middle : State = at s columns (Some (with_entries c (es ++ e ∷ []))) lowered (Row e.0 ∷ paired) in
    let after : List (ℕ × ℚ) → State =
    λ l. at s columns (Some (with_entries c l)) lowered (paired_by (Row e.0 ∷ paired) rest) in
    let card : IsColumnCard style before c.name (row m e.0).name e.1 =
    record {
      part = within.part;
      group_item = record { word = name_word c.name named; room = rooms.group };
      name_item = record { word = row_name_word (row m e.0).name row_named; room = rooms.name };
      number_item = record { word = number_word e.1 next.narrow.top next.narrow.bottom; room = rooms.number };
      group_name = named;
      row_name = row_named;
      narrow = next.narrow;
    } in
    let P : List (ℕ × ℚ) → Type 0 = λ l. Goes style middle (map (entry_card m c) rest) (after l) in
    goes_then style before middle (after (es ++ e ∷ rest)) (entry_card m c e) (map (entry_card m c) rest)
    (entry_goes style m s c columns lowered es e paired kept within inside card next.not_zero
    (below_more low e.0 es above below) (paired_more low e.0 paired above p))
    (subst P (append_assoc es (e ∷ []) rest)
    (entries_go style m s c columns lowered (suc e.0) (es ++ e ∷ []) rest
    (Row e.0 ∷ paired) kept within named ascend.1 (below_push low (suc e.0) e es (omega arith) (omega arith) below)
    (omega arith, paired_more low (suc e.0) paired (omega arith) p) rooms.rest))

-- ---- a column

-- the written cards of a column make it the open column, without its bounds
column_goes : (style : Style) (m : Model) (s : State) (c : ExactColumn) (columns : List ExactColumn)
    (column : Option ExactColumn) (lowered : List Bool) (paired : List Target) → IsModel m → IsWithin m s
    → IsKeptColumn (length m.rows) c → IsNarrowColumn c → is_open column c.name ≡ false →
    list_any (λ d. same d.name c.name) (columns_with columns column) ≡ false →
    length (columns_with columns column) < column_limit
    → RoomFor style (column_cards m c)
    → Goes style (at s columns column lowered paired) (column_cards m c) (at s (columns_with columns column)
    (Some (bare_column c)) (lowered ++ false ∷ []) (paired_by (Objective ∷ []) c.entries))
column_goes style m s c columns column lowered paired kept within k n closed absent few room =
    let whole : List ExactColumn = columns_with columns column in
    let rooms = card_room style c.name m.objective c.cost (map (entry_card m c) c.entries) room in
    let before : State = at s columns column lowered paired in
    let new : State = at s whole (Some (new_column c.name)) (lowered ++ false ∷ []) [] in
    let first : State = at s whole (Some (with_entries c [])) (lowered ++ false ∷ []) (Objective ∷ []) in
    let after : State =
    at s whole (Some (bare_column c)) (lowered ++ false ∷ []) (paired_by (Objective ∷ []) c.entries) in
    let card : IsColumnCard style before c.name m.objective c.cost =
    record {
      part = within.part;
      group_item = record { word = name_word c.name k.name; room = rooms.group };
      name_item = record { word = row_name_word m.objective kept.objective; room = rooms.name };
      number_item = record { word = number_word c.cost n.cost.top n.cost.bottom; room = rooms.number };
      group_name = k.name;
      row_name = kept.objective;
      narrow = n.cost;
    } in
    goes_then style before first after (number_card c.name m.objective c.cost) (map (entry_card m c) c.entries)
    (column_card_goes style before new first c.name m.objective c.cost Objective card
    (opened_new before c.name closed absent few)
    (objective_place m new (rows_at m s whole (Some (new_column c.name)) (lowered ++ false ∷ []) [] within.rows))
    (entered new (new_column c.name) Objective c.cost refl refl))
    (entries_go style m s c whole (lowered ++ false ∷ []) 0 [] c.entries (Objective ∷ []) kept within k.name
    (entries_ascend (length m.rows) c.entries k.entries n.entries) tt tt rooms.rest)

-- ---- names of columns

-- the names of columns, in order
abbrev names_of_columns : List ExactColumn → List Name
names_of_columns columns = map (λ c. c.name) columns

-- a column of a list has a name just where the name is one of their names
any_named : (columns : List ExactColumn) (name : Name) →
    list_any (λ c. same c.name name) columns ≡ list_any (λ n. same n name) (names_of_columns columns)
any_named [] name = refl
any_named (c ∷ columns) name = ap (λ t. same c.name name || t) (any_named columns name)

-- where neither of two tests passes, the second does not
last_part : (s t : Bool) → s || t ≡ false → t ≡ false
last_part true t e = cc
last_part false t e = e

-- a name that no column has, the open one among them, is not that of the open one
not_open : (columns : List ExactColumn) (column : Option ExactColumn) (name : Name) →
    list_any (λ c. same c.name name) (columns_with columns column) ≡ false → is_open column name ≡ false
not_open columns None name h = refl
not_open columns (Some c) name h =
    by (same c.name name) (last_part (list_any (λ d. same d.name name) columns)
    (same c.name name || false) (sym (list_any-append (λ d. same d.name name) columns (c ∷ [])) ∙ h))
  where
    by : (t : Bool) → t || false ≡ false → t ≡ false
    by true e = e
    by false e = refl

-- ---- all columns

-- reading the written cards of columns and the heading RHS adds the columns behind those before
columns_go : (style : Style) (m : Model) (s : State) (cs columns : List ExactColumn)
    (column : Option ExactColumn) (lowered : List Bool) (paired : List Target) → IsModel m → IsWithin m s
    → All (IsKeptColumn (length m.rows)) cs → All IsNarrowColumn cs →
    AreFresh (names_of_columns (columns_with columns column)) (names_of_columns cs) →
    length (columns_with columns column) + length cs ≤ column_limit
    → RoomFor style (flat_map (column_cards m) cs)
    → Goes style (at s columns column lowered paired) (flat_map (column_cards m) cs ++ section_card (codes "RHS") ∷ [])
    (record (begun s section.RightSides)
    { columns = columns_with columns column ++ map bare_column cs; lowered = lowered ++ map (λ c. false) cs })
columns_go style m s [] columns column lowered paired kept within k n new few room =
    let before : State = at s columns column lowered paired in
    let after : List ExactColumn → List Bool → State =
    λ cs ls. record (begun s section.RightSides) { columns = cs; lowered = ls } in
    let P : List ExactColumn → List Bool → Type 0 =
    λ cs ls. Goes style before (section_card (codes "RHS") ∷ []) (after cs ls) in
    subst₂ P (sym (append-nil (columns_with columns column))) (sym (append-nil lowered))
    (goes_one style before (after (columns_with columns column) lowered)
    (section_card (codes "RHS")) (sides_step style before within.begun within.no_sides))
columns_go style m s (c ∷ cs) columns column lowered paired kept within k n new few room =
    let whole : List ExactColumn = columns_with columns column in
    let before : State = at s columns column lowered paired in
    let middle : State =
    at s whole (Some (bare_column c)) (lowered ++ false ∷ []) (paired_by (Objective ∷ []) c.entries) in
    let rhs : WrittenCards = section_card (codes "RHS") ∷ [] in
    let after : List ExactColumn → List Bool → State =
    λ ds ls. record (begun s section.RightSides) { columns = ds; lowered = ls } in
    let P : List ExactColumn → List Bool → Type 0 =
    λ ds ls. Goes style middle (flat_map (column_cards m) cs ++ rhs) (after ds ls) in
    let absent : list_any (λ d. same d.name c.name) whole ≡ false = any_named whole c.name ∙ new.0 in
    let longer : length (whole ++ bare_column c ∷ []) ≡ length whole + 1 = length-append whole (bare_column c ∷ []) in
    let first : Goes style before (column_cards m c) middle =
    column_goes style m s c columns column lowered paired kept within (k 0 c (omega arith))
    (n 0 c (omega arith)) (not_open columns column c.name absent) absent (omega arith)
    (room_front style (column_cards m c) (flat_map (column_cards m) cs) room) in
    let F : List Name → Type 0 = λ names. AreFresh names (names_of_columns cs) in
    let rest : P ((whole ++ bare_column c ∷ []) ++ map bare_column cs)
    ((lowered ++ false ∷ []) ++ map (λ c. false) cs) =
    columns_go style m s cs whole (Some (bare_column c)) (lowered ++ false ∷ []) (paired_by (Objective ∷ []) c.entries)
    kept within (λ i d l. k (suc i) d (omega arith)) (λ i d l. n (suc i) d (omega arith))
    (subst F (sym (map-append (λ (d : ExactColumn). d.name) whole (bare_column c ∷ []))) new.1) (omega arith)
    (room_back style (column_cards m c) (flat_map (column_cards m) cs) room) in
    let all : P (whole ++ map bare_column (c ∷ cs)) (lowered ++ map (λ c. false) (c ∷ cs)) =
    subst₂ P (append_assoc whole (bare_column c ∷ []) (map bare_column cs))
    (append_assoc lowered (false ∷ []) (map (λ c. false) cs)) rest in
    let Q : WrittenCards → Type 0 =
    λ cards.
    Goes style before cards (after (whole ++ map bare_column (c ∷ cs)) (lowered ++ map (λ c. false) (c ∷ cs))) in
    subst Q (sym (append_assoc (column_cards m c) (flat_map (column_cards m) cs) rhs))
    (goes_append style before middle (after (whole ++ map bare_column (c ∷ cs)) (lowered ++ map (λ c. false) (c ∷ cs)))
    (column_cards m c) (flat_map (column_cards m) cs ++ rhs) first all)

-- ---- the section

-- the written cards of COLUMNS of a usual model that fits the form are read as its columns, without bounds
pub columns_are_read : (style : Style) (m : Model) → IsUsualModel m → Fits style m → ColumnsAreRead style m
unfolding columns_cards
columns_are_read style m kept fits s none =
    let one : State = begun s section.Columns in
    let rhs : WrittenCards = section_card (codes "RHS") ∷ [] in
    let empty : columns_with s.columns s.column ≡ [] = rw (none.none_open, none.no_column) refl in
    let rows : HasRowsOf m one =
    record { objective = none.objective; rows = none.rows } in
    let within : IsWithin m one = record { part = refl; rows = rows; begun = refl; no_sides = none.no_sides } in
    let F : List ExactColumn → Type 0 = λ cs. AreFresh (names_of_columns cs) (names_of_columns m.columns) in
    let short : length (columns_with s.columns s.column) ≡ 0 = ap length empty in
    let few : length m.columns ≤ column_limit = kept.1.few_columns in
    let heading : Goes style s (section_card (codes "COLUMNS") ∷ []) one =
    goes_one style s one (section_card (codes "COLUMNS"))
    (columns_step style s m.objective none.rows_are_read none.no_section none.objective) in
    let after : List ExactColumn → List Bool → State =
    λ cs ls. record (begun one section.RightSides) { columns = cs; lowered = ls } in
    let P : List ExactColumn → List Bool → Type 0 =
    λ cs ls. Goes style one (flat_map (column_cards m) m.columns ++ rhs) (after cs ls) in
    let rest : Goes style one (flat_map (column_cards m) m.columns ++ rhs) (with_columns_of s m) =
    subst₂ P (ap (λ (cs : List ExactColumn). cs ++ map bare_column m.columns) empty)
    (ap (λ (ls : List Bool). ls ++ map (λ c. false) m.columns) none.none_lowered)
    (columns_go style m one m.columns one.columns None s.lowered [] kept.0 within kept.0.columns kept.0.narrow_columns
    (subst F (sym empty) (fresh [] (names_of_columns m.columns) (λ i d l. refl) kept.0.columns_distinct))
    (omega arith) (room_for_columns style m fits)) in
    goes_then style s one (with_columns_of s m) (section_card (codes "COLUMNS"))
    (flat_map (column_cards m) m.columns ++ rhs) heading rest
