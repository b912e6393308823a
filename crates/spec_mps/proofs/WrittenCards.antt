-- A data card that is written is read with the fields that were written.
use Rattle.std.specs.Prelude.{ℕ, ◌≡◌, ◌≤◌, List, [], ◌∷◌, length, codes}
use Rattle.spec_mps.specs.declared.card.Card.TheVariants.{Given}
use Rattle.spec_mps.specs.declared.style.Style.{Style}
use Rattle.spec_mps.specs.declared.style.Style.TheVariants.{Free, Fixed}
use Rattle.spec_mps.specs.Fields.{Fields, CardReading, Is, free_fields, fixed_fields, numbered_from, texts_of}
use Rattle.spec_mps.specs.NumberWritten.{IsWord}
use Rattle.spec_mps.specs.Written.{Data, field_at, line_text}

-- a text has room in a field of this size: always in free form, in fixed form where it has no more bytes
abbrev pub HasRoom : Style → ℕ → List ℕ → Type 0
HasRoom Free size w = Unit {0}
HasRoom Fixed size w = length w ≤ size

-- the text is a word, and has room in a field of this size in this form
pub record IsItem (style : Style) (size : ℕ) (w : List ℕ) : Type 0 where
  pub word : IsWord w
  pub room : HasRoom style size w

-- how a line is read in this form, outside OBJSENSE
abbrev pub reading_in : Style → List ℕ → CardReading
reading_in Free line = free_fields line
reading_in Fixed line = fixed_fields line

-- the fields as which written fields are read: in free form numbered from 1, in fixed form as they are
abbrev pub read_as : Style → Fields → Fields
read_as Free fields = numbered_from 1 (texts_of fields)
read_as Fixed fields = fields

-- the line of a data card with these fields is read, in this form, as a data card with these fields
pub record IsReadBack (style : Style) (fields : Fields) : Type 0 where
  pub read : reading_in style (line_text style (Data fields)) ≡ Is (Given (read_as style fields))

-- the lines of all four kinds of data cards are read, in this form, as their fields, where the texts are words with
-- room
pub record AreReadBack (style : Style) : Type 0 where
  pub types : (type name : List ℕ) → IsItem style 2 type → IsItem style 8 name →
      IsReadBack style (field_at 1 type ∷ field_at 2 name ∷ [])
  pub numbers : (group name number : List ℕ) → IsItem style 8 group → IsItem style 8 name → IsItem style 12 number
      → IsReadBack style (field_at 2 group ∷ field_at 3 name ∷ field_at 4 number ∷ [])
  pub bounds : (kind name number : List ℕ) → IsItem style 2 kind → IsItem style 8 name → IsItem style 12 number
      → IsReadBack style (field_at 1 kind ∷ field_at 2 (codes "BND") ∷ field_at 3 name ∷ field_at 4 number ∷ [])
  pub without_number : (kind name : List ℕ) → IsItem style 2 kind → IsItem style 8 name →
      IsReadBack style (field_at 1 kind ∷ field_at 2 (codes "BND") ∷ field_at 3 name ∷ [])
