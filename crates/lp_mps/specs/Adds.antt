-- What adding fields to a line, and cards to a text, says.
use Rattle.std.specs.Prelude.{ℕ, ◌≡◌, ⊤, Bool, false, Option, Some, None, option_map}
use Rattle.std.specs.Prelude.{Result, Ok, Err, List, [], ◌∷◌, ◌++◌, map, find, codes}
use Rattle.std.specs.Borrow.{Bor}
use Rattle.spec_model.specs.Model.{Model}
use Rattle.spec_mps.specs.declared.style.Style.{Style}
use Rattle.spec_mps.specs.declared.style.Style.TheVariants.{Free, Fixed}
use Rattle.spec_mps.specs.Fields.{Field, Fields}
use Rattle.spec_mps.specs.Written.{WrittenCards, cards_text, with_fields, is_wide, first_wide}
use Rattle.spec_mps.specs.Written.{name_card, sense_cards, rows_cards, columns_cards, sides_cards}
use Rattle.spec_mps.specs.Written.{ranges_cards, bounds_cards, section_card, too_wide, fixed}
use Rattle.lp_mps.specs.declared.write.stop.WriteStop.{WriteStop}
use Rattle.lp_mps.specs.declared.write.stop.WriteStop.TheVariants.{TooWide, NoMemory}

-- pairs of a number and a text, as the code holds them, as the definition's fields
abbrev pub fields_of : List (ℕ × Bor (List ℕ)) → Fields
fields_of fields = map (λ f. record { number = f.0; text = f.1.now }) fields

-- whether a field is too wide for the form: for fixed form by its width, for free form never
abbrev pub is_wide_in : Style → Field → Bool
is_wide_in Free f = false
is_wide_in Fixed f = is_wide f

-- the text of the first of the fields that is too wide for the form; none if all fit
abbrev pub wide_field : Style → Fields → Option (List ℕ)
wide_field style fields = option_map (λ f. f.text) (find (is_wide_in style) fields)

-- a stop for width gives the item that is too wide, and `wide` is that item; of one for lack of memory nothing is asked
abbrev pub Names : Option (List ℕ) → WriteStop → Type 0
Names wide (TooWide item) = wide ≡ Some item
Names wide NoMemory = Unit {0}

-- Writing the fields of a card takes the line `before` to `after`, with all of them added. Or it stops: at the first
-- field that is too wide for its place in the card, or for lack of memory. Of the line after a stop nothing is said.
abbrev pub PutsFields : Style → Fields → List ℕ → List ℕ → Result ⊤ WriteStop → Type 0
PutsFields style fields before after (Ok done) =
    (wide_field style fields ≡ None) × (after ≡ with_fields style before fields)
PutsFields style fields before after (Err stop) = Names (wide_field style fields) stop

-- the text of the first field of cards that is too wide for the form; none if all fit
abbrev pub wide_in : Style → WrittenCards → Option (List ℕ)
wide_in Free cards = None
wide_in Fixed cards = first_wide cards

-- the text `after` is `before` with the lines of the cards behind it, and no field of these is too wide for the form
pub record IsAdded (style : Style) (cards : WrittenCards) (before after : List ℕ) : Type 0 where
  pub narrow : wide_in style cards ≡ None
  pub text : after ≡ before ++ cards_text style cards

-- Writing the cards takes the text `before` to `after`, with their lines behind it; or it stops, at the first field
-- that is too wide for the form, or for lack of memory. Of the text after a stop nothing is said.
abbrev pub Adds : Style → WrittenCards → List ℕ → List ℕ → Result ⊤ WriteStop → Type 0
Adds style cards before after (Ok done) = IsAdded style cards before after
Adds style cards before after (Err stop) = Names (wide_in style cards) stop

-- the cards of a model's text up to the last one of COLUMNS
abbrev pub front_cards : Model → WrittenCards
front_cards m = name_card m.name ∷ sense_cards m.sense ++ rows_cards m ++ columns_cards m

-- the cards of a model's text after those of COLUMNS
abbrev pub back_cards : Model → WrittenCards
back_cards m = sides_cards m ++ ranges_cards m ++ bounds_cards m ++ section_card (codes "ENDATA") ∷ []

-- the result is the text of these cards, if no field is too wide for the form; or the first field that is, or no memory
abbrev pub GivesText : Style → WrittenCards → Result (List ℕ) WriteStop → Type 0
GivesText style cards (Ok text) = (wide_in style cards ≡ None) × (text ≡ cards_text style cards)
GivesText style cards (Err stop) = Names (wide_in style cards) stop

-- the result is the model's text in fixed form, if no item is too wide; or the first item that is, or no memory
abbrev pub IsFixed : Model → Result (List ℕ) WriteStop → Type 0
IsFixed m (Ok text) = (too_wide m ≡ None) × (text ≡ fixed m)
IsFixed m (Err stop) = Names (too_wide m) stop
