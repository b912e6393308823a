-- The cards of a text in free and in fixed form, with numbered fields.
use Rattle.std.specs.Prelude.{ℕ, ◌+◌, ◌-◌, ◌==◌, ◌&&◌, ◌||◌, Bool, not, Option, Some, None}
use Rattle.std.specs.Prelude.{List, [], ◌∷◌, ◌++◌, take, drop, map, nat_le, if◌then◌else◌}
use Rattle.std.specs.List.{list_all}
use Rattle.spec_text.specs.Words.{words_of}
use Rattle.spec_mps.specs.declared.card.Card.{Card}
use Rattle.spec_mps.specs.declared.card.Card.TheVariants.{Skip, Section, Given}
use Rattle.spec_mps.specs.Cards.{is_skipped, begins_with_blank}

-- a word with its place from 1, or what stands in one of the fields 1 to 6 of a card in fixed form
pub record Field : Type 0 where
  pub number : ℕ
  pub text : List ℕ

-- the fields of a card, in their order
abbrev pub Fields : Type 0
Fields = List Field

-- what a line is read as: a card; or, in fixed form, the first column with a byte that may not stand there
pub data CardReading : Type 0 where
  Is : (card : Card Fields) → CardReading
  Misplaced : (column : ℕ) → CardReading

-- ---- free form: the fields are the words

-- texts as fields with the numbers from n on
abbrev pub numbered_from : ℕ → List (List ℕ) → Fields
numbered_from n [] = []
numbered_from n (text ∷ texts) = record { number = n; text = text } ∷ numbered_from (n + 1) texts

-- the words of a line as fields 1, 2 and so on
unfoldable pub word_fields : List ℕ → Fields
word_fields line = numbered_from 1 (words_of line)

-- how a line of free form is read, by its words: skipped; or, where it begins with a blank, a data card;
-- else a section's heading
unfoldable pub free_fields : List ℕ → CardReading
free_fields line =
    if is_skipped line then Is Skip
    else (if begins_with_blank line then Is (Given (word_fields line)) else Is (Section (word_fields line)))

-- ---- fixed form: the fields stand in columns

-- whether a column up to 62 belongs to no field
abbrev pub is_beside : ℕ → Bool
is_beside column =
    column == 1 || column == 4 || column == 13 || column == 14 || column == 23 || column == 24
    || column == 37 || column == 38 || column == 39 || column == 48 || column == 49 || column == 62

-- whether a byte may not stand in this column: up to column 62 a tab, and beside the fields anything but a space
abbrev pub is_misplaced : ℕ → ℕ → Bool
is_misplaced column byte = nat_le column 62 && (byte == 9 || (is_beside column && not (byte == 32)))

-- the first column with a misplaced byte, where the first of these bytes stands in the given column;
-- none if there is none
abbrev pub misplaced_from : ℕ → List ℕ → Option ℕ
misplaced_from column [] = None
misplaced_from column (b ∷ bs) = if is_misplaced column b then Some column else misplaced_from (column + 1) bs

-- whether a byte is a space
abbrev pub is_space : ℕ → Bool
is_space b = b == 32

-- the bytes without the spaces at their start
abbrev pub without_front : List ℕ → List ℕ
without_front [] = []
without_front (b ∷ bs) = if is_space b then without_front bs else b ∷ bs

-- the bytes without the spaces at their end
abbrev pub without_end : List ℕ → List ℕ
without_end [] = []
without_end (b ∷ bs) = if list_all is_space (b ∷ bs) then [] else b ∷ without_end bs

-- the bytes of a line from the first of these columns to the last, without spaces at either end
unfoldable pub in_columns : ℕ → ℕ → List ℕ → List ℕ
in_columns first last line = without_end (without_front (drop (first - 1) (take last line)))

-- field n with these bytes as the only field; no field where there are no bytes
abbrev pub field_of : ℕ → List ℕ → Fields
field_of n [] = []
field_of n (b ∷ bs) = record { number = n; text = b ∷ bs } ∷ []

-- the fields 1 to 6 of a line of fixed form, by their columns, without those that are empty or spaces alone
unfoldable pub column_fields : List ℕ → Fields
column_fields line =
    field_of 1 (in_columns 2 3 line) ++ field_of 2 (in_columns 5 12 line) ++ field_of 3 (in_columns 15 22 line)
    ++ field_of 4 (in_columns 25 36 line) ++ field_of 5 (in_columns 40 47 line) ++ field_of 6 (in_columns 50 61 line)

-- a line of fixed form as the data card with these fields; or its first misplaced byte's column, if there is one
abbrev pub placed : Option ℕ → Fields → CardReading
placed None fields = Is (Given fields)
placed (Some column) fields = Misplaced column

-- how a line of fixed form is read: skipped; or a section's heading, by its words; or, where it begins with a blank, a
-- data card by its columns, unless a byte is misplaced
unfoldable pub fixed_fields : List ℕ → CardReading
fixed_fields line =
    if is_skipped line then Is Skip
    else (if begins_with_blank line then placed (misplaced_from 1 line) (column_fields line)
    else Is (Section (word_fields line)))

-- ---- the fields of a card

-- the text of a card's field with the number n; no bytes where the card has no such field
abbrev pub text_at : ℕ → Fields → List ℕ
text_at n [] = []
text_at n (f ∷ fs) = if f.number == n then f.text else text_at n fs

-- the numbers of a card's fields, in order
abbrev pub numbers_of : Fields → List ℕ
numbers_of fields = map (λ f. f.number) fields

-- the texts of a card's fields, in order
abbrev pub texts_of : Fields → List (List ℕ)
texts_of fields = map (λ f. f.text) fields
