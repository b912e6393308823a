-- Of the lines of a model's written text the last one alone ends the text.
use Rattle.std.proofs.Common.{◌≡◌, ℕ, ◌-◌, Bool, true, false, not, ◌&&◌, cond, Option, Some, None, List, [], ◌∷◌, ◌++◌}
use Rattle.std.proofs.Common.{length, get_or, map, replicate, refl, ap}
use Rattle.std.specs.Prelude.{codes, All}
use Rattle.std.specs.List.{flat_map, list_any}
use Rattle.std.proofs.lemmas.List.Elements.{All-nil, All-cons, All-append, All-map}
use Rattle.spec_text.specs.declared.line.Line.TheVariants.{Text}
use Rattle.spec_text.specs.Words.{is_blank, words_of}
use Rattle.spec_exact.specs.Fraction.{ℚ, 0ℚ, neg_ℚ, eq_ℚ, lt_ℚ}
use Rattle.spec_model.specs.declared.parts.Sense.{Sense}
use Rattle.spec_model.specs.declared.parts.Sense.TheVariants.{Min, Max}
use Rattle.spec_model.specs.Model.{Model, Name, ExactRow, ExactColumn, row}
use Rattle.spec_mps.specs.declared.style.Style.{Style}
use Rattle.spec_mps.specs.declared.style.Style.TheVariants.{Free, Fixed}
use Rattle.spec_mps.specs.Cards.{begins_with_blank}
use Rattle.spec_mps.specs.Fields.{Fields}
use Rattle.spec_mps.specs.NumberWritten.{number_text}
use Rattle.spec_mps.specs.Written.{WrittenCard, WrittenCards, Data, field_at, section_card, type_card, number_card}
use Rattle.spec_mps.specs.Written.{bound_card, unbound_card, name_card, sense_cards, kind_word, row_card, rows_cards}
use Rattle.spec_mps.specs.Written.{column_cards, columns_cards, side_cards, sides_cards, range_cards, has_range}
use Rattle.spec_mps.specs.Written.{ranges_cards, bound_cards, has_bounds, bounds_cards, first_column, with_fields}
use Rattle.spec_mps.specs.Written.{line_text}
use Rattle.spec_server.specs.Script.{begins_with_word, ends_text}

module _ (style : Style) where
  -- a card whose line does not end a text
  abbrev IsInner : WrittenCard → Type 0
  IsInner card = ends_text (Text (line_text style card)) ≡ false

  -- cards of which no line ends a text
  abbrev AreInner : WrittenCards → Type 0
  AreInner cards = All IsInner cards

  -- ---- data cards begin with a blank

  -- further fields leave the first byte of a line as it is
  keeps_first : (other : Style) (b : ℕ) (line : List ℕ) (fs : Fields) →
      begins_with_blank (with_fields other (b ∷ line) fs) ≡ is_blank b
  keeps_first other b line [] = refl
  keeps_first Free b line (f ∷ fs) = keeps_first Free b ((line ++ 32 ∷ []) ++ f.text) fs
  keeps_first Fixed b line (f ∷ fs) =
      keeps_first Fixed b ((line ++ replicate (first_column f.number - 1 - length (b ∷ line)) 32) ++ f.text) fs

  -- a line that begins with a blank ends no text
  blank_line : (line : List ℕ) → begins_with_blank line ≡ true → ends_text (Text line) ≡ false
  unfolding ends_text
  blank_line line h = ap (λ b. not b && begins_with_word (codes "ENDATA") (words_of line)) h

  -- a line whose first field is field 1 begins with a blank
  first_inner : (other : Style) (w : List ℕ) (fs : Fields) →
      begins_with_blank (with_fields other [] (field_at 1 w ∷ fs)) ≡ true
  first_inner Free w fs = keeps_first Free 32 w fs
  first_inner Fixed w fs = keeps_first Fixed 32 w fs

  -- a line whose first field is field 2 begins with a blank
  second_inner : (other : Style) (w : List ℕ) (fs : Fields) →
      begins_with_blank (with_fields other [] (field_at 2 w ∷ fs)) ≡ true
  second_inner Free w fs = keeps_first Free 32 w fs
  second_inner Fixed w fs = keeps_first Fixed 32 (32 ∷ 32 ∷ 32 ∷ w) fs

  -- a data card whose first field is field 1 ends no text
  from_first : (w : List ℕ) (fs : Fields) → IsInner (Data (field_at 1 w ∷ fs))
  from_first w fs = blank_line (line_text style (Data (field_at 1 w ∷ fs))) (first_inner style w fs)

  -- a data card whose first field is field 2 ends no text
  from_second : (w : List ℕ) (fs : Fields) → IsInner (Data (field_at 2 w ∷ fs))
  from_second w fs = blank_line (line_text style (Data (field_at 2 w ∷ fs))) (second_inner style w fs)

  -- a card of ROWS ends no text
  type_inner : (type : List ℕ) (name : Name) → IsInner (type_card type name)
  type_inner type name = from_first type (field_at 2 name ∷ [])

  -- a card of COLUMNS, RHS or RANGES ends no text
  number_inner : (group name : Name) (v : ℚ) → IsInner (number_card group name v)
  number_inner group name v = from_second group (field_at 3 name ∷ field_at 4 (number_text v) ∷ [])

  -- a card of BOUNDS with a number ends no text
  bound_inner : (kind : List ℕ) (name : Name) (v : ℚ) → IsInner (bound_card kind name v)
  bound_inner kind name v = from_first kind (field_at 2 (codes "BND") ∷ field_at 3 name ∷ field_at 4 (number_text v) ∷
      [])

  -- a card of BOUNDS without a number ends no text
  unbound_inner : (kind : List ℕ) (name : Name) → IsInner (unbound_card kind name)
  unbound_inner kind name = from_first kind (field_at 2 (codes "BND") ∷ field_at 3 name ∷ [])

  -- ---- headings are other words

  -- the card NAME ends no text, whatever the model's name is
  name_inner : (other : Style) (name : Name) → ends_text (Text (line_text other (name_card name))) ≡ false
  unfolding ends_text words_of
  name_inner other [] = refl
  name_inner Free (b ∷ bs) = refl
  name_inner Fixed (b ∷ bs) = refl

  -- none of the headings ROWS, COLUMNS, RHS, RANGES and BOUNDS, nor OBJSENSE MAX, ends a text
  record AreHeadingsInner : Type 0 where
    rows : IsInner (section_card (codes "ROWS"))
    columns : IsInner (section_card (codes "COLUMNS"))
    sides : IsInner (section_card (codes "RHS"))
    ranges : IsInner (section_card (codes "RANGES"))
    bounds : IsInner (section_card (codes "BOUNDS"))
    sense : IsInner (section_card (codes "OBJSENSE MAX"))

  -- no heading before ENDATA ends a text
  headings_inner : AreHeadingsInner
  unfolding ends_text words_of
  headings_inner = record { rows = refl; columns = refl; sides = refl; ranges = refl; bounds = refl; sense = refl }

  -- ---- all cards before ENDATA

  -- of no cards none ends a text
  none : AreInner []
  none = All-nil IsInner

  -- where a card ends no text, the list of it alone does not
  one : (card : WrittenCard) → IsInner card → AreInner (card ∷ [])
  one card h = All-cons IsInner card [] h none

  -- where two cards end no text, the list of both does not
  two : (a b : WrittenCard) → IsInner a → IsInner b → AreInner (a ∷ b ∷ [])
  two a b h k = All-cons IsInner a (b ∷ []) h (one b k)

  -- where the cards of each item of a list end no text, those of all items do not
  each : {X : Type 0} (f : X → WrittenCards) (xs : List X) → ((x : X) → AreInner (f x)) → AreInner (flat_map f xs)
  each f [] h = none
  each f (x ∷ xs) h = All-append IsInner (f x) (flat_map f xs) (h x) (each f xs h)

  -- the card for the sense of the objective, if there is one, ends no text
  sense_all : (sense : Sense) → AreInner (sense_cards sense)
  sense_all Min = none
  sense_all Max = one (section_card (codes "OBJSENSE MAX")) headings_inner.sense

  -- the cards of ROWS end no text
  rows_all : (m : Model) → AreInner (rows_cards m)
  unfolding rows_cards
  rows_all m =
      All-cons IsInner (section_card (codes "ROWS")) (type_card (codes "N") m.objective ∷ map row_card m.rows)
      headings_inner.rows
      (All-cons IsInner (type_card (codes "N") m.objective) (map row_card m.rows) (type_inner (codes "N") m.objective)
      (All-map IsInner row_card m.rows (λ k d l. type_inner (kind_word (get_or m.rows k d).kind)
      (get_or m.rows k d).name)))

  -- the cards of one column end no text
  column_all : (m : Model) (c : ExactColumn) → AreInner (column_cards m c)
  column_all m c =
      All-cons IsInner (number_card c.name m.objective c.cost) (map (λ e. number_card c.name (row m e.0).name e.1)
      c.entries) (number_inner c.name m.objective c.cost)
      (All-map IsInner (λ (e : ℕ × ℚ). number_card c.name (row m e.0).name e.1) c.entries
      (λ k d l. number_inner c.name (row m (get_or c.entries k d).0).name (get_or c.entries k d).1))

  -- the cards of COLUMNS end no text
  columns_all : (m : Model) → AreInner (columns_cards m)
  unfolding columns_cards
  columns_all m =
      All-cons IsInner (section_card (codes "COLUMNS")) (flat_map (column_cards m) m.columns)
      headings_inner.columns (each (column_cards m) m.columns (column_all m))

  -- the cards of one right side end no text
  side_all : (name : Name) (v : ℚ) → AreInner (side_cards name v)
  side_all name v = by (eq_ℚ v 0ℚ)
    where
      by : (t : Bool) → AreInner (cond t [] (number_card (codes "RHS") name v ∷ []))
      by true = none
      by false = one (number_card (codes "RHS") name v) (number_inner (codes "RHS") name v)

  -- the cards of RHS end no text
  sides_all : (m : Model) → AreInner (sides_cards m)
  unfolding sides_cards
  sides_all m =
      All-cons IsInner (section_card (codes "RHS")) (side_cards m.objective (neg_ℚ m.offset) ++ flat_map
      (λ (r : ExactRow). side_cards r.name r.rhs) m.rows) headings_inner.sides
      (All-append IsInner (side_cards m.objective (neg_ℚ m.offset))
      (flat_map (λ (r : ExactRow). side_cards r.name r.rhs) m.rows) (side_all m.objective (neg_ℚ m.offset))
      (each (λ (r : ExactRow). side_cards r.name r.rhs) m.rows (λ r. side_all r.name r.rhs)))

  -- the cards of one range end no text
  range_all : (name : Name) (o : Option ℚ) → AreInner (range_cards name o)
  range_all name None = none
  range_all name (Some v) = one (number_card (codes "RNG") name v) (number_inner (codes "RNG") name v)

  -- the cards of RANGES end no text
  ranges_all : (m : Model) → AreInner (ranges_cards m)
  unfolding ranges_cards
  ranges_all m = by (list_any has_range m.rows)
    where
      by : (t : Bool) →
          AreInner (cond t (section_card (codes "RANGES") ∷ flat_map (λ (r : ExactRow). range_cards r.name r.range)
          m.rows) [])
      by true =
          All-cons IsInner (section_card (codes "RANGES")) (flat_map (λ (r : ExactRow). range_cards r.name r.range)
          m.rows) headings_inner.ranges
          (each (λ (r : ExactRow). range_cards r.name r.range) m.rows (λ r. range_all r.name r.range))
      by false = none

  -- the cards of one column's bounds end no text
  bound_all : (name : Name) (lower upper : Option ℚ) → AreInner (bound_cards name lower upper)
  bound_all name None None = one (unbound_card (codes "FR") name) (unbound_inner (codes "FR") name)
  bound_all name None (Some u) = two (unbound_card (codes "MI") name) (bound_card (codes "UP") name u)
      (unbound_inner (codes "MI") name) (bound_inner (codes "UP") name u)
  bound_all name (Some l) None = by (eq_ℚ l 0ℚ)
    where
      by : (t : Bool) → AreInner (cond t [] (bound_card (codes "LO") name l ∷ []))
      by true = none
      by false = one (bound_card (codes "LO") name l) (bound_inner (codes "LO") name l)
  bound_all name (Some l) (Some u) = by (eq_ℚ l u) (eq_ℚ l 0ℚ && lt_ℚ 0ℚ u)
    where
      by : (s t : Bool) →
          AreInner (cond s (bound_card (codes "FX") name l ∷ []) (cond t (bound_card (codes "UP") name u ∷ [])
          (bound_card (codes "LO") name l ∷ bound_card (codes "UP") name u ∷ [])))
      by true t = one (bound_card (codes "FX") name l) (bound_inner (codes "FX") name l)
      by false true = one (bound_card (codes "UP") name u) (bound_inner (codes "UP") name u)
      by false false = two (bound_card (codes "LO") name l) (bound_card (codes "UP") name u)
          (bound_inner (codes "LO") name l) (bound_inner (codes "UP") name u)

  -- the cards of BOUNDS end no text
  bounds_all : (m : Model) → AreInner (bounds_cards m)
  unfolding bounds_cards
  bounds_all m = by (list_any has_bounds m.columns)
    where
      by : (t : Bool) →
          AreInner (cond t (section_card (codes "BOUNDS") ∷ flat_map (λ (c : ExactColumn). bound_cards c.name c.lower
          c.upper) m.columns) [])
      by true =
          All-cons IsInner (section_card (codes "BOUNDS"))
          (flat_map (λ (c : ExactColumn). bound_cards c.name c.lower c.upper) m.columns) headings_inner.bounds
          (each (λ (c : ExactColumn). bound_cards c.name c.lower c.upper) m.columns
          (λ c. bound_all c.name c.lower c.upper))
      by false = none

-- the cards before ENDATA
abbrev pub inner_cards : Model → WrittenCards
inner_cards m =
    name_card m.name ∷ sense_cards m.sense ++ rows_cards m ++ columns_cards m ++ sides_cards m ++ ranges_cards m ++
    bounds_cards m

-- no line of a model's written text before the last one ends the text
pub inner_lines : (style : Style) (m : Model) →
    All (λ card. ends_text (Text (line_text style card)) ≡ false) (inner_cards m)
inner_lines style m =
    let P : WrittenCard → Type 0 = λ card. ends_text (Text (line_text style card)) ≡ false in
    let start : WrittenCards = name_card m.name ∷ sense_cards m.sense in
    let a = All-cons P (name_card m.name) (sense_cards m.sense) (name_inner style style m.name)
    (sense_all style m.sense) in
    let b = All-append P start (rows_cards m) a (rows_all style m) in
    let c = All-append P (start ++ rows_cards m) (columns_cards m) b (columns_all style m) in
    let d = All-append P (start ++ rows_cards m ++ columns_cards m) (sides_cards m) c (sides_all style m) in
    let e = All-append P (start ++ rows_cards m ++ columns_cards m ++ sides_cards m) (ranges_cards m) d
    (ranges_all style m) in
    All-append P (start ++ rows_cards m ++ columns_cards m ++ sides_cards m ++ ranges_cards m) (bounds_cards m) e
    (bounds_all style m)
