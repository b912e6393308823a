-- Which basis a file spells, by its cards alone.
use Rattle.std.specs.Prelude.{ℕ, ◌+◌, ◌<◌, ◌≡◌, ◌≢◌, ◌⊎◌, Option, Some, List, [], ◌∷◌, ◌++◌, length, map, All, AllPairs}
use Rattle.std.specs.List.{flat_map}
use Rattle.spec_text.specs.declared.line.Line.{Line}
use Rattle.spec_exact.specs.Fraction.{ℚ}
use Rattle.spec_model.specs.Model.{Model, Name}
use Rattle.spec_model.specs.Kept.{row_place, column_place}
use Rattle.spec_pivot.specs.declared.status.Status.{Status}
use Rattle.spec_pivot.specs.declared.status.Status.TheVariants.{Basic, AtUpper}
use Rattle.spec_simplex.specs.Form.{Form, form_upper}
use Rattle.spec_simplex.specs.Eliminate.{basis_at}
use Rattle.spec_bas.specs.declared.card.Card.TheVariants.{Xu, Xl, Ul, Ll}
use Rattle.spec_bas.specs.declared.card.Reading.TheVariants.{Skipped, Named, Ends, Says}
use Rattle.spec_bas.specs.Cards.{ExactCard, ExactReading, reading_of}
use Rattle.spec_bas.specs.Steps.{lower_first, upper_first}

-- ---- which lines are cards

-- the list of what a line is read as; empty for a comment or a blank line
abbrev pub unless_skipped : ExactReading → List ExactReading
unless_skipped Skipped = []
unless_skipped reading = reading ∷ []

-- what the lines of a basis file are read as, in order, without the comments and the blank lines
abbrev pub readings_of : List (Line (List ℕ)) → List ExactReading
readings_of lines = flat_map (λ line. unless_skipped (reading_of line)) lines

-- The lines have an ENDATA. Before the first one they have these data cards, in order, and nothing else but comments,
-- blank lines and perhaps one NAME before all cards. The lines behind that ENDATA may be any.
pub record HasCards (lines : List (Line (List ℕ))) (cards : List ExactCard) : Type 0 where
  pub front : List (Line (List ℕ))
  pub last : Line (List ℕ)
  pub more : List (Line (List ℕ))
  pub cut : lines ≡ front ++ last ∷ more
  pub ends : reading_of last ≡ Ends
  pub before : (readings_of front ≡ map Says cards) ⊎ (readings_of front ≡ Named ∷ map Says cards)

-- ---- what cards mean

-- the list of the column that a card names
abbrev pub column_on : ExactCard → List Name
column_on (Xu column row) = column ∷ []
column_on (Xl column row) = column ∷ []
column_on (Ul column) = column ∷ []
column_on (Ll column) = column ∷ []

-- the list of the row that a card names; empty for a card with a column alone
abbrev pub row_on : ExactCard → List Name
row_on (Xu column row) = row ∷ []
row_on (Xl column row) = row ∷ []
row_on (Ul column) = []
row_on (Ll column) = []

-- the columns that cards name
abbrev pub columns_on : List ExactCard → List Name
columns_on cards = flat_map column_on cards

-- the rows that cards name
abbrev pub rows_on : List ExactCard → List Name
rows_on cards = flat_map row_on cards

-- the names are those of a column and a row of the model; in the basis the column is basic, and the row's logical has
-- the status that `status` gives for its number in the form
pub record IsPair (m : Model) (f : Form) (basis : List Status) (column row : Name) (status : ℕ → Status) : Type 0 where
  pub j : ℕ
  pub i : ℕ
  pub is_column : column_place m column ≡ Some j
  pub is_row : row_place m row ≡ Some i
  pub basic : basis_at basis j ≡ Basic
  pub stands : basis_at basis (f.cols + i) ≡ status (f.cols + i)

-- the name is that of a column of the model, which has an upper bound and is at it in the basis
pub record IsUpper (m : Model) (f : Form) (basis : List Status) (column : Name) : Type 0 where
  pub j : ℕ
  pub is_column : column_place m column ≡ Some j
  pub bound : (u : ℚ) × (form_upper f j ≡ Some u)
  pub stands : basis_at basis j ≡ AtUpper

-- the name is that of a column of the model, which in the basis is at its lower bound, else at its upper one, else at 0
pub record IsUsual (m : Model) (f : Form) (basis : List Status) (column : Name) : Type 0 where
  pub j : ℕ
  pub is_column : column_place m column ≡ Some j
  pub stands : basis_at basis j ≡ lower_first f j

-- What a card says is so in the basis. XU and XL name a basic column, and a row at its upper or lower limit: at the
-- other limit where it lacks this one, at 0 where it has none. UL and LL name a column at its upper bound or at its
-- usual status.
abbrev pub Means : Model → Form → List Status → ExactCard → Type 0
Means m f basis (Xu column row) = IsPair m f basis column row (upper_first f)
Means m f basis (Xl column row) = IsPair m f basis column row (lower_first f)
Means m f basis (Ul column) = IsUpper m f basis column
Means m f basis (Ll column) = IsUsual m f basis column

-- none of these names is that of the column, or the row, of number k; `place` gives the number of a name
abbrev pub HasNoCard : (Name → Option ℕ) → List Name → ℕ → Type 0
HasNoCard place names k = All (λ name. place name ≢ Some k) names

-- ---- which basis they spell

-- Each column and each row is named at most once, and what each card says is so in the basis. A column that no card
-- names is at its lower bound, else at its upper one, else at 0. The logical of a row that no card names is basic.
pub record AreCardsOf (m : Model) (f : Form) (cards : List ExactCard) (basis : List Status) : Type 0 where
  pub columns_once : AllPairs (λ x y. x ≢ y) (columns_on cards)
  pub rows_once : AllPairs (λ x y. x ≢ y) (rows_on cards)
  pub mean : All (Means m f basis) cards
  pub all : length basis ≡ f.cols + f.rows
  pub other_columns : (j : ℕ) → j < f.cols → HasNoCard (column_place m) (columns_on cards) j →
      basis_at basis j ≡ lower_first f j
  pub other_rows : (i : ℕ) → i < f.rows → HasNoCard (row_place m) (rows_on cards) i →
      basis_at basis (f.cols + i) ≡ Basic

-- The data cards before the first ENDATA of these lines spell this basis: what each says is so in it, and each column
-- and each row that none names has its usual status.
pub record SpellsBasis (m : Model) (f : Form) (lines : List (Line (List ℕ))) (basis : List Status) : Type 0 where
  pub cards : List ExactCard
  pub has : HasCards lines cards
  pub are : AreCardsOf m f cards basis
