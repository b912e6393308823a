-- The lines of a basis file. A line that begins in column 1 is a section card, NAME or ENDATA; any other one is a data
-- card, which is read by its words. Comments and blank lines are those of texts of models.
use Rattle.std.specs.Prelude.{ℕ, Option, Some, None, List, [], ◌∷◌, codes, if◌then◌else◌}
use Rattle.spec_text.specs.declared.line.Line.{Line}
use Rattle.spec_text.specs.declared.line.Line.TheVariants as line
use Rattle.spec_text.specs.Words.{words_of}
use Rattle.spec_model.specs.Model.{Name}
use Rattle.spec_mps.specs.Cards.{is_skipped, begins_with_blank}
use Rattle.spec_mps.specs.Shapes.{look_up}
use Rattle.spec_bas.specs.declared.fault.BasCode.TheVariants as code
use Rattle.spec_bas.specs.declared.card.Card.{Card}
use Rattle.spec_bas.specs.declared.card.Card.TheVariants.{Xu, Xl, Ul, Ll}
use Rattle.spec_bas.specs.declared.card.Reading.{Reading}
use Rattle.spec_bas.specs.declared.card.Reading.TheVariants.{Skipped, Named, Ends, Says, Wrong}

-- a data card, with names as lists of bytes
abbrev pub ExactCard : Type 0
ExactCard = Card Name

-- what a line of a basis file is read as, with names as lists of bytes
abbrev pub ExactReading : Type 0
ExactReading = Reading Name

-- ---- data cards

-- the card XU or XL with a column and a row; none where the first word is another one
abbrev pub pair_of : List ℕ → Name → Name → Option ExactCard
pair_of kind column row = look_up kind ((codes "XU", Xu column row) ∷ (codes "XL", Xl column row) ∷ [])

-- the card UL or LL with a column alone; none where the first word is another one
abbrev pub single_of : List ℕ → Name → Option ExactCard
single_of kind column = look_up kind ((codes "UL", Ul column) ∷ (codes "LL", Ll column) ∷ [])

-- the data card that the words of a line say: three words XU or XL with a column and a row, two words UL or LL with a
-- column; none for any other words
unfoldable pub card_of : List (List ℕ) → Option ExactCard
card_of (kind ∷ column ∷ row ∷ []) = pair_of kind column row
card_of (kind ∷ column ∷ []) = single_of kind column
card_of words = None

-- a line as its data card, or as a fault where it says none
abbrev pub data_reading : Option ExactCard → ExactReading
data_reading None = Wrong code.Card
data_reading (Some card) = Says card

-- ---- section cards

-- a line as its section card, or as a fault where it is none
abbrev pub section_by : Option ExactReading → ExactReading
section_by None = Wrong code.Section
section_by (Some reading) = reading

-- what a section card of a basis file is by its first word: the card NAME, the card ENDATA, or a fault
unfoldable pub section_reading : List (List ℕ) → ExactReading
section_reading [] = Wrong code.Section
section_reading (word ∷ more) = section_by (look_up word ((codes "NAME", Named) ∷ (codes "ENDATA", Ends) ∷ []))

-- ---- lines

-- how the bytes of a line are read: skipped; or a data card, where they begin with a blank;
-- or a section card; or a fault
unfoldable pub text_reading : List ℕ → ExactReading
text_reading bytes =
    if is_skipped bytes then Skipped
    else (if begins_with_blank bytes then data_reading (card_of (words_of bytes)) else section_reading (words_of bytes))

-- how a line of a basis file is read. A line that is too long is the fault `Card`. The end of the input, or of what may
-- be read of it, is the fault `Cut`.
unfoldable pub reading_of : Line (List ℕ) → ExactReading
reading_of (line.Text bytes) = text_reading bytes
reading_of (line.Long len) = Wrong code.Card
reading_of line.End = Wrong code.Cut
reading_of line.Over = Wrong code.Cut
