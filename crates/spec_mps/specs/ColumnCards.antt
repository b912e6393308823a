-- What the cards of COLUMNS say: a column's name, and one pair or two of a row's name and a number.
use Rattle.std.specs.Prelude.{ℕ, not, List, [], ◌∷◌, map}
use Rattle.std.specs.List.{filter, flat_map}
use Rattle.spec_text.specs.Words.{same}
use Rattle.spec_model.specs.Model.{Name}
use Rattle.spec_mps.specs.Fields.{Fields, texts_of}
use Rattle.spec_mps.specs.NumberCards.{Pairs}

-- what the texts of a card of COLUMNS say: the name of a column, and pairs of a row's name and a number
pub record ColumnTexts : Type 0 where
  pub column : Name
  pub pairs : Pairs

-- the column and the pairs among the texts of a card of COLUMNS, three or five;
-- of any other count an empty name, no pairs
abbrev pub column_of : List (List ℕ) → ColumnTexts
column_of (column ∷ row ∷ value ∷ []) = record { column = column; pairs = (row, value) ∷ [] }
column_of (column ∷ row ∷ value ∷ other ∷ second ∷ []) =
    record { column = column; pairs = (row, value) ∷ (other, second) ∷ [] }
column_of texts = record { column = []; pairs = [] }

-- the name of the column on a card of COLUMNS; no bytes where the card has not three or five fields
abbrev pub column_on : Fields → Name
column_on card = (column_of (texts_of card)).column

-- the pairs of a row's name and a number's text on a card of COLUMNS; none where the card has not three or five fields
abbrev pub numbers_on : Fields → Pairs
numbers_on card = (column_of (texts_of card)).pairs

-- names in the order of their first mention, each once
abbrev pub firsts : List Name → List Name
firsts [] = []
firsts (name ∷ names) = name ∷ filter (λ other. not (same name other)) (firsts names)

-- the columns that cards of COLUMNS name, each once, in the order of their first cards; a card without three or five
-- fields names the column with an empty name
unfoldable pub named_columns : List Fields → List Name
named_columns cards = firsts (map column_on cards)

-- the pairs on all cards of COLUMNS that name this column, in order
unfoldable pub pairs_of_column : Name → List Fields → Pairs
pairs_of_column name cards = flat_map numbers_on (filter (λ card. same (column_on card) name) cards)
