-- What the sections RHS, RANGES and BOUNDS of a written text have in common: data cards with a number.
--
-- `given_step`: in a section with numbers, a line read as a data card is taken by that section's rule.
-- `number_item`: the text of a number within 127 bits that has room is a word that fits a field of 12 bytes.
-- `number_card_of`: a word and a number within 127 bits on a card with room make a card that says the number of a row.
use Rattle.std.proofs.Common.{◌≡◌, ℕ, Bool, true, false, Some, Ok, List, [], ◌∷◌, refl, ap, ◌∙◌}
use Rattle.spec_text.specs.declared.line.Line.TheVariants.{Text}
use Rattle.spec_exact.specs.Fraction.{ℚ}
use Rattle.spec_exact.specs.Narrow.{IsNarrow}
use Rattle.spec_model.specs.Kept.{usual_limits}
use Rattle.spec_model.specs.Model.{Name}
use Rattle.spec_mps.specs.declared.card.Card.TheVariants.{Given}
use Rattle.spec_mps.specs.declared.style.Style.{Style}
use Rattle.spec_mps.specs.declared.style.Style.TheVariants.{Free, Fixed}
use Rattle.spec_mps.specs.declared.section.Section.{Section}
use Rattle.spec_mps.specs.declared.section.Section.TheVariants as section
use Rattle.spec_mps.specs.Fields.{Fields, Is}
use Rattle.spec_mps.specs.NumberWritten.{number_text, IsWord}
use Rattle.spec_mps.specs.Reader.{State, number_in}
use Rattle.spec_mps.specs.Steps.{more, data_card, step, on_reading, reading_of}
use Rattle.spec_mps.specs.Written.{number_card, field_at}
use Rattle.spec_mps.proofs.WrittenCards.{HasRoom, IsItem, reading_in}
use Rattle.spec_mps.proofs.WrittenNumbers.{number_word}
use Rattle.spec_mps.proofs.WrittenPlaces.{number_is_in}
use Rattle.spec_mps.proofs.WrittenRoom.{RoomFor, card_room}

-- ---- data cards of a section

-- the fields 2 to 4 of a card with a number: a column or a set, a row's name and the number's text
abbrev pub number_fields : Name → Name → List ℕ → Fields
number_fields group name text = field_at 2 group ∷ field_at 3 name ∷ field_at 4 text ∷ []

-- whether the data cards of the section have numbers: COLUMNS, RHS, RANGES and BOUNDS
abbrev pub has_numbers : Section → Bool
has_numbers section.Name = false
has_numbers section.Sense = false
has_numbers section.Rows = false
has_numbers section.Columns = true
has_numbers section.RightSides = true
has_numbers section.Ranges = true
has_numbers section.Bounds = true
has_numbers section.End = false

-- in RHS, RANGES and BOUNDS a line is read as a data card of its form
reading_is : (style : Style) (part : Section) (line : List ℕ) → has_numbers part ≡ true →
    reading_of style (Some part) line ≡ reading_in style line
reading_is Free part line h = refl
reading_is Fixed section.Name line h = cc
reading_is Fixed section.Sense line h = cc
reading_is Fixed section.Rows line h = cc
reading_is Fixed section.Columns line h = refl
reading_is Fixed section.RightSides line h = refl
reading_is Fixed section.Ranges line h = refl
reading_is Fixed section.Bounds line h = refl
reading_is Fixed section.End line h = cc

pub given_step : (style : Style) (s : State) (part : Section) (line : List ℕ) (fields : Fields) →
    s.part ≡ Some part → has_numbers part ≡ true → reading_in style line ≡ Is (Given fields)
    → step usual_limits style s (Text line) ≡ more (data_card usual_limits style (Some part) s fields)
unfolding step
given_step style s part line fields e h k =
    ap (λ p. on_reading usual_limits style s (reading_of style p line)) e
    ∙ ap (on_reading usual_limits style s) (reading_is style part line h ∙ k)
    ∙ ap (λ p. more (data_card usual_limits style p s fields)) e

-- ---- numbers

pub number_item : (style : Style) (q : ℚ) → IsNarrow q → HasRoom style 12 (number_text q) →
    IsItem style 12 (number_text q)
number_item style q h room = record { word = number_word q h.top h.bottom; room = room }

-- a row's name and a number's text are words with room on a card, and the text is read as the number
pub record IsNumberCard (style : Style) (name : Name) (q : ℚ) : Type 0 where
  pub row : IsItem style 8 name
  pub number : IsItem style 12 (number_text q)
  pub reads : number_in (number_text q) ≡ Ok q

pub number_card_of : (style : Style) (group name : Name) (q : ℚ) → IsWord name → IsNarrow q →
    RoomFor style (number_card group name q ∷ []) → IsNumberCard style name q
number_card_of style group name q word h room =
    let r = card_room style group name q [] room in
    record {
      row = record { word = word; room = r.name };
      number = number_item style q h r.number;
      reads = number_is_in q h;
    }
