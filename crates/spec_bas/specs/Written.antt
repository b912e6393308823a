-- The file that a basis is written as: pairs of a basic column and a row that is not basic, both in the order of the
-- model, then the columns at their upper bounds.
use Rattle.std.specs.Prelude.{ℕ, ◌+◌, Bool, true, false, not, List, [], ◌∷◌, ◌++◌, map, codes}
use Rattle.std.specs.List.{filter, zip}
use Rattle.spec_model.specs.Model.{Model, Name, row, column}
use Rattle.spec_pivot.specs.declared.status.Status.{Status}
use Rattle.spec_pivot.specs.declared.status.Status.TheVariants.{Basic, AtLower, AtUpper, AtZero}
use Rattle.spec_simplex.specs.Form.{Form}
use Rattle.spec_exact.specs.Run.{made}
use Rattle.spec_simplex.specs.Tableau.{is_basic}
use Rattle.spec_simplex.specs.Eliminate.{basis_at}
use Rattle.spec_mps.specs.declared.style.Style.TheVariants.{Free}
use Rattle.spec_mps.specs.Fields.{Fields}
use Rattle.spec_mps.specs.Written.{WrittenCard, WrittenCards, Data, field_at, name_card, section_card, cards_text}
use Rattle.spec_bas.specs.declared.card.Card.TheVariants.{Xu, Xl, Ul, Ll}
use Rattle.spec_bas.specs.Cards.{ExactCard}

-- ---- the cards of a basis

-- whether a status is that of a column at its upper bound
abbrev pub is_at_upper : Status → Bool
is_at_upper Basic = false
is_at_upper AtLower = false
is_at_upper AtUpper = true
is_at_upper AtZero = false

-- the numbers below n that pass a test, in order
abbrev pub chosen : ℕ → (ℕ → Bool) → List ℕ
chosen n test = filter test (made n (λ k. k))

-- the numbers of the model's columns that are basic in a basis, in order
abbrev pub basic_columns : Form → List Status → List ℕ
basic_columns f basis = chosen f.cols (λ j. is_basic (basis_at basis j))

-- the numbers of the rows whose logical columns are not basic in a basis, in order
abbrev pub other_rows : Form → List Status → List ℕ
other_rows f basis = chosen f.rows (λ i. not (is_basic (basis_at basis (f.cols + i))))

-- the numbers of the model's columns that are at their upper bounds in a basis, in order
abbrev pub upper_columns : Form → List Status → List ℕ
upper_columns f basis = chosen f.cols (λ j. is_at_upper (basis_at basis j))

-- the card of a basic column and a row with this status: XU if the row is at its upper limit, else XL
abbrev pub paired : Status → Name → Name → ExactCard
paired Basic column row = Xl column row
paired AtLower column row = Xl column row
paired AtUpper column row = Xu column row
paired AtZero column row = Xl column row

-- the card of a basic column and a row that is not basic, by the pair of their numbers: XU if the row is at its upper
-- limit in the basis, else XL
abbrev pub pair_card : Model → Form → List Status → ℕ × ℕ → ExactCard
pair_card m f basis pair = paired (basis_at basis (f.cols + pair.1)) (column m pair.0).name (row m pair.1).name

-- the card UL of column j
abbrev pub upper_card : Model → ℕ → ExactCard
upper_card m j = Ul (column m j).name

-- the cards of a basis: one for each basic column with a row that is not basic, the first with the first and so on;
-- then one for each column at its upper bound
unfoldable pub cards_of : Model → Form → List Status → List ExactCard
cards_of m f basis =
    map (pair_card m f basis) (zip (basic_columns f basis) (other_rows f basis))
    ++ map (upper_card m) (upper_columns f basis)

-- ---- their lines, as those of texts of models in free form

-- the fields of a card with a column and a row
abbrev pub pair_fields : List ℕ → Name → Name → Fields
pair_fields kind column row = field_at 1 kind ∷ field_at 2 column ∷ field_at 3 row ∷ []

-- the fields of a card with a column alone
abbrev pub single_fields : List ℕ → Name → Fields
single_fields kind column = field_at 1 kind ∷ field_at 2 column ∷ []

-- the fields of a data card: its kind, its column, and its row if it has one
abbrev pub fields_on : ExactCard → Fields
fields_on (Xu column row) = pair_fields (codes "XU") column row
fields_on (Xl column row) = pair_fields (codes "XL") column row
fields_on (Ul column) = single_fields (codes "UL") column
fields_on (Ll column) = single_fields (codes "LL") column

-- a card as one of a text in free form
abbrev pub written_card : ExactCard → WrittenCard
written_card card = Data (fields_on card)

-- the cards of the file: NAME, those of the basis, ENDATA
unfoldable pub written_cards : Model → Form → List Status → WrittenCards
written_cards m f basis =
    name_card m.name ∷ map written_card (cards_of m f basis) ++ section_card (codes "ENDATA") ∷ []

-- the text of the file that a basis is written as: NAME, the cards of the basis and ENDATA, in free form
unfoldable pub bas_text : Model → Form → List Status → List ℕ
bas_text m f basis = cards_text Free (written_cards m f basis)
