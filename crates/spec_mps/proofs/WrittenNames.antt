-- Names of a kept model are words, none is there twice, and where fixed form fits they have room in their fields.
--
-- `name_word`: a valid name of a column is a word.
-- `row_name_word`: a valid name of a row is a word.
-- `fresh`: distinct names that are absent from some names before them are each fresh.
-- `fresh_names`: of distinct names, those after the first are each fresh after it.
-- `field_narrow`: where no field of a list is too wide, the first one fits and no other is too wide.
-- `front_narrow`: where no field of two lists of cards is too wide, none of the first list is.
-- `back_narrow`: where no field of two lists of cards is too wide, none of the second list is.
-- `rows_known`: rows with valid names that fit the form have names that are items of their cards.
use Rattle.std.proofs.Common.{◌≡◌, ◌≢◌, suc, ◌&&◌, Bool, true, false, cond, Option, Some, None}
use Rattle.std.proofs.Common.{List, [], ◌∷◌, ◌++◌, length, map, get_or, refl, sym, ap, ◌∙◌, arith}
use Rattle.std.specs.Prelude.{nat_lt, nat_le, option_map, find, IsTrue}
use Rattle.std.specs.Option.{option_or}
use Rattle.std.specs.List.{All, AllPairs, list_all, flat_map}
use Rattle.std.proofs.lemmas.Grind.{flat_map-append}
use Rattle.std.proofs.lemmas.List.Folds.{find-append, list_any-append}
use Rattle.std.proofs.lemmas.Bool.{and_parts}
use borrow.Author.Tests.{ltb-false}
use Rattle.spec_text.specs.Words.{has_bytes, same}
use Rattle.spec_model.specs.Model.{Name, ExactRow}
use Rattle.spec_model.specs.Kept.{is_name, is_row_name, is_printable}
use Rattle.spec_model.proofs.NamePlaces.{not_same}
use Rattle.spec_mps.specs.declared.style.Style.{Style}
use Rattle.spec_mps.specs.declared.style.Style.TheVariants.{Free, Fixed}
use Rattle.spec_mps.specs.Fields.{Field, Fields}
use Rattle.spec_mps.specs.Written.{WrittenCards, is_wide, data_fields, first_wide, row_card, field_at, kind_word}
use Rattle.spec_mps.specs.NumberWritten.{IsWord}
use Rattle.spec_mps.proofs.WrittenRows.{IsAbsent, AreFresh, AreRows}

-- ---- words

-- a name whose length is above 0 has bytes
some_bytes : (name : Name) → nat_lt 0 (length name) ≡ true → has_bytes name ≡ true
some_bytes [] h = cc
some_bytes (b ∷ name) h = refl

pub name_word : (name : Name) → is_name name ≡ true → IsWord name
unfolding is_name
name_word name h =
    let p = and_parts (nat_lt 0 (length name) && nat_le (length name) 64) (list_all is_printable name) h in
    let q = and_parts (nat_lt 0 (length name)) (nat_le (length name) 64) p.0 in
    record { some = some_bytes name q.0; printable = p.1 }

pub row_name_word : (name : Name) → is_row_name name ≡ true → IsWord name
unfolding is_row_name
row_name_word name h = name_word name (and_parts _ _ h).0

-- ---- distinct names

-- a name absent from names and other than a last one is absent from both
absent_next : (name : Name) (seen : List Name) (last : Name) → IsAbsent name seen → last ≢ name →
    IsAbsent name (seen ++ last ∷ [])
absent_next name seen last h k = list_any-append (λ n. same n name) seen (last ∷ []) ∙ rw (h, not_same last name k) refl

pub fresh : (seen names : List Name) → All (λ n. IsAbsent n seen) names → AllPairs (λ x y. x ≢ y) names →
    AreFresh seen names
fresh seen [] h k = tt
fresh seen (name ∷ names) h k = (
  h 0 name (omega arith),
  fresh (seen ++ name ∷ []) names (λ i d a. absent_next (get_or names i d) seen name
      (h (suc i) d (omega arith)) (k 0 (suc i) d (omega arith) (omega arith)))
      (λ i j d a b. k (suc i) (suc j) d (omega arith) (omega arith)),
)

pub fresh_names : (first : Name) (names : List Name) → AllPairs (λ x y. x ≢ y) (first ∷ names) →
    AreFresh (first ∷ []) names
fresh_names first names k = (fresh [] (first ∷ names) (λ i d a. refl) k).1

-- ---- room in fixed form

-- where neither a field that counts only if a test passes nor another one is there, the test fails and the other is
-- absent
cond_none : (t : Bool) (f : Field) (o : Option Field) → option_map (λ g. g.text) (cond t (Some f) o) ≡ None →
    (t ≡ false) × (option_map (λ g. g.text) o ≡ None)
cond_none true f o h = cc
cond_none false f o h = (refl, h)

pub field_narrow : (f : Field) (fs : Fields) → option_map (λ g. g.text) (find is_wide (f ∷ fs)) ≡ None →
    (is_wide f ≡ false) × (option_map (λ g. g.text) (find is_wide fs) ≡ None)
field_narrow f fs h = cond_none (is_wide f) f (find is_wide fs) h

-- where neither of two fields is there, the first is absent
front_none : (x y : Option Field) → option_map (λ g. g.text) (option_or x y) ≡ None → option_map (λ g. g.text) x ≡ None
front_none None y h = refl
front_none (Some f) y h = cc

-- where neither of two fields is there, the second is absent
back_none : (x y : Option Field) → option_map (λ g. g.text) (option_or x y) ≡ None → option_map (λ g. g.text) y ≡ None
back_none None y h = h
back_none (Some f) y h = cc

-- the first text too wide on two lists of cards is on the first, or else on the second
in_both : (cs ds : WrittenCards) →
    first_wide (cs ++ ds) ≡ option_map (λ g. g.text)
    (option_or (find is_wide (flat_map data_fields cs)) (find is_wide (flat_map data_fields ds)))
in_both cs ds =
    ap (option_map (λ g. g.text)) (ap (find is_wide) (flat_map-append data_fields cs ds)
    ∙ find-append is_wide (flat_map data_fields cs) (flat_map data_fields ds))

pub front_narrow : (cs ds : WrittenCards) → first_wide (cs ++ ds) ≡ None → first_wide cs ≡ None
front_narrow cs ds h =
    front_none (find is_wide (flat_map data_fields cs))
    (find is_wide (flat_map data_fields ds)) (sym (in_both cs ds) ∙ h)

pub back_narrow : (cs ds : WrittenCards) → first_wide (cs ++ ds) ≡ None → first_wide ds ≡ None
back_narrow cs ds h =
    back_none (find is_wide (flat_map data_fields cs))
    (find is_wide (flat_map data_fields ds)) (sym (in_both cs ds) ∙ h)

-- ---- rows

-- the form has room for the cards of these rows: free form always, fixed form where no field is too wide
abbrev pub RoomForRows : Style → List ExactRow → Type 0
RoomForRows Free rows = Unit {0}
RoomForRows Fixed rows = first_wide (map row_card rows) ≡ None

pub rows_known : (style : Style) (rows : List ExactRow) → All (λ r. IsTrue (is_row_name r.name)) rows →
    RoomForRows style rows → AreRows style rows
rows_known style [] h room = tt
rows_known Free (r ∷ rows) h room =
    let name : is_row_name r.name ≡ true = h 0 r (omega arith) in (
      record { word = row_name_word r.name name; room = tt },
      name,
      rows_known Free rows (λ i d a. h (suc i) d (omega arith)) tt,
    )
rows_known Fixed (r ∷ rows) h room =
    let name : is_row_name r.name ≡ true = h 0 r (omega arith) in
    let type =
    field_narrow (field_at 1 (kind_word r.kind)) (field_at 2 r.name ∷ flat_map data_fields (map row_card rows)) room in
    let p = field_narrow (field_at 2 r.name) (flat_map data_fields (map row_card rows)) type.1 in (
      record { word = row_name_word r.name name; room = ltb-false 8 (length r.name) p.0 },
      name,
      rows_known Fixed rows (λ i d a. h (suc i) d (omega arith)) p.1,
    )
