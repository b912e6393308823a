-- Where a model fits fixed form, the fields of its cards have room.
--
-- `card_room`: where cards with numbers have room, the first card's two names and its number have room.
-- `room_front`: where two lists of cards have room, the first list has room.
-- `room_back`: where two lists of cards have room, the second list has room.
-- `room_of`: a model that fits a form has room for the cards of each of its sections.
-- `room_for_columns`: a model that fits a form has room for the cards of its columns.
use Rattle.std.proofs.Common.{◌≡◌, None, [], ◌∷◌, ◌++◌, length}
use Rattle.std.specs.Prelude.{codes}
use Rattle.std.specs.List.{flat_map}
use borrow.Author.Tests.{ltb-false}
use Rattle.spec_exact.specs.Fraction.{ℚ}
use Rattle.spec_model.specs.Model.{Model, Name}
use Rattle.spec_mps.specs.declared.style.Style.{Style}
use Rattle.spec_mps.specs.declared.style.Style.TheVariants.{Free, Fixed}
use Rattle.spec_mps.specs.NumberWritten.{number_text}
use Rattle.spec_mps.specs.Written.{WrittenCards, cards_of, name_card, sense_cards, rows_cards}
use Rattle.spec_mps.specs.Written.{columns_cards, column_cards, sides_cards, ranges_cards, bounds_cards}
use Rattle.spec_mps.specs.Written.{section_card, number_card, field_at, data_fields, first_wide, too_wide}
use Rattle.spec_mps.proofs.WrittenCards.{HasRoom}
use Rattle.spec_mps.proofs.WrittenSteps.{Fits}
use Rattle.spec_mps.proofs.WrittenNames.{front_narrow, back_narrow, field_narrow}

-- the form has room for these cards: free form always, fixed form where no field is too wide
abbrev pub RoomFor : Style → WrittenCards → Type 0
RoomFor Free cards = Unit {0}
RoomFor Fixed cards = first_wide cards ≡ None

-- both names and the number of a card have room, and so have the cards behind it
pub record HasRooms (style : Style) (column place : Name) (value : ℚ) (cards : WrittenCards) : Type 0 where
  pub group : HasRoom style 8 column
  pub name : HasRoom style 8 place
  pub number : HasRoom style 12 (number_text value)
  pub rest : RoomFor style cards

pub card_room : (style : Style) (group name : Name) (value : ℚ) (cards : WrittenCards) →
    RoomFor style (number_card group name value ∷ cards) → HasRooms style group name value cards
card_room Free group name value cards h = record { group = tt; name = tt; number = tt; rest = tt }
card_room Fixed group name value cards h =
    let rest = flat_map data_fields cards in
    let a = field_narrow (field_at 2 group) (field_at 3 name ∷ field_at 4 (number_text value) ∷ rest) h in
    let b = field_narrow (field_at 3 name) (field_at 4 (number_text value) ∷ rest) a.1 in
    let c = field_narrow (field_at 4 (number_text value)) rest b.1 in
    record {
      group = ltb-false 8 (length group) a.0;
      name = ltb-false 8 (length name) b.0;
      number = ltb-false 12 (length (number_text value)) c.0;
      rest = c.1;
    }

pub room_front : (style : Style) (cs ds : WrittenCards) → RoomFor style (cs ++ ds) → RoomFor style cs
room_front Free cs ds h = tt
room_front Fixed cs ds h = front_narrow cs ds h

pub room_back : (style : Style) (cs ds : WrittenCards) → RoomFor style (cs ++ ds) → RoomFor style ds
room_back Free cs ds h = tt
room_back Fixed cs ds h = back_narrow cs ds h

-- the cards of each section from ROWS to BOUNDS of the model have room in the form
pub record HasItsRoom (style : Style) (m : Model) : Type 0 where
  pub rows : RoomFor style (rows_cards m)
  pub columns : RoomFor style (columns_cards m)
  pub sides : RoomFor style (sides_cards m)
  pub ranges : RoomFor style (ranges_cards m)
  pub bounds : RoomFor style (bounds_cards m)

-- a model that fits a form has room for all its cards in that form
whole_room : (style : Style) (m : Model) → Fits style m → RoomFor style (cards_of m)
unfolding too_wide
whole_room Free m fits = tt
whole_room Fixed m fits = fits

pub room_of : (style : Style) (m : Model) → Fits style m → HasItsRoom style m
unfolding cards_of
room_of style m fits =
    let start : WrittenCards = name_card m.name ∷ sense_cards m.sense in
    let a =
    room_front style (start ++ rows_cards m ++ columns_cards m ++ sides_cards m ++ ranges_cards m ++ bounds_cards m)
    (section_card (codes "ENDATA") ∷ []) (whole_room style m fits) in
    let b =
    room_front style (start ++ rows_cards m ++ columns_cards m ++ sides_cards m ++ ranges_cards m) (bounds_cards m) a in
    let c = room_front style (start ++ rows_cards m ++ columns_cards m ++ sides_cards m) (ranges_cards m) b in
    let d = room_front style (start ++ rows_cards m ++ columns_cards m) (sides_cards m) c in
    let e = room_front style (start ++ rows_cards m) (columns_cards m) d in
    record {
      rows = room_back style start (rows_cards m) e;
      columns = room_back style (start ++ rows_cards m) (columns_cards m) d;
      sides = room_back style (start ++ rows_cards m ++ columns_cards m) (sides_cards m) c;
      ranges = room_back style (start ++ rows_cards m ++ columns_cards m ++ sides_cards m) (ranges_cards m) b;
      bounds =
          room_back style (start ++ rows_cards m ++ columns_cards m ++ sides_cards m ++ ranges_cards m)
          (bounds_cards m) a;
    }

pub room_for_columns : (style : Style) (m : Model) → Fits style m → RoomFor style (flat_map (column_cards m) m.columns)
unfolding columns_cards
room_for_columns style m h =
    room_back style (section_card (codes "COLUMNS") ∷ []) (flat_map (column_cards m) m.columns)
    (room_of style m h).columns
