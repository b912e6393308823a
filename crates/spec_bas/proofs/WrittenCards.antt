-- The lines of a written file are its cards, and the file spells the basis that it is written from.
use Rattle.std.proofs.Common.{◌≡◌, ◌↔◌, ℕ, ◌+◌, ◌<◌, inr, true, false, Option, Some, Ok}
use Rattle.std.proofs.Common.{List, [], ◌∷◌, ◌++◌, length, map, All, refl, sym, ap, ◌∙◌, subst, arith}
use Rattle.std.specs.Prelude.{codes, nat_le}
use Rattle.std.specs.List.{list_all, zip}
use Rattle.std.proofs.lemmas.List.{map-append}
use Rattle.std.proofs.lemmas.List.Elements.{All-nil, All-cons, All-append, All-map, All-weaker, All-tail}
use Rattle.std.proofs.lemmas.Bool.{and_parts}
use Rattle.spec_text.specs.declared.line.Line.TheVariants.{Text}
use Rattle.spec_text.specs.Lines.{lines_of}
use Rattle.spec_text.specs.Words.{words_of}
use Rattle.spec_model.specs.Model.{Model, Name, no_row, no_column}
use Rattle.spec_model.specs.Kept.{IsModel, is_name, is_row_name, is_model_name, is_printable}
use Rattle.spec_model.proofs.NamePlaces.{column_name, row_name}
use Rattle.spec_pivot.specs.declared.status.Status.{Status}
use Rattle.spec_pivot.specs.declared.status.Status.TheVariants.{Basic, AtLower, AtUpper, AtZero}
use Rattle.spec_simplex.specs.Form.{Form, form_of}
use Rattle.spec_simplex.specs.Eliminate.{basis_at, IsBasisOf}
use Rattle.spec_mps.specs.declared.style.Style.TheVariants.{Free}
use Rattle.spec_mps.specs.Cards.{is_skipped, begins_with_blank}
use Rattle.spec_mps.specs.Fields.{texts_of}
use Rattle.spec_mps.specs.NumberWritten.{IsWord}
use Rattle.spec_mps.specs.Written.{WrittenCard, name_card, section_card, line_text}
use Rattle.spec_mps.proofs.WrittenNames.{name_word}
use Rattle.spec_mps.proofs.WrittenWords.{AreWords, words_of_joined, parts_word, parts_word_then}
use Rattle.spec_mps.proofs.WrittenWords.{stripped_plain, is_plain, free_line}
use Rattle.spec_mps.proofs.WrittenSteps.{IsPlainLine, card_lines}
use Rattle.spec_mps.proofs.WrittenShort.{IsShortCard, plain_line, name_short, name_card_short}
use Rattle.spec_mps.proofs.WrittenLines.{has_its_lines}
use Rattle.spec_mps.proofs.WrittenStart.{heading_word}
use Rattle.spec_bas.specs.declared.card.Card.TheVariants.{Xu, Xl, Ul, Ll}
use Rattle.spec_bas.specs.declared.card.Reading.TheVariants.{Named, Ends, Says}
use Rattle.spec_bas.specs.Cards.{ExactCard, ExactReading, card_of, section_reading, text_reading, reading_of}
use Rattle.spec_bas.specs.Fits.{HasSizeOf}
use Rattle.spec_bas.specs.Spelled.{HasCards, SpellsBasis, readings_of, unless_skipped}
use Rattle.spec_bas.specs.Written.{fields_on, written_card, written_cards, cards_of, bas_text, paired, pair_card}
use Rattle.spec_bas.specs.Written.{upper_card, basic_columns, other_rows, upper_columns}
use Rattle.spec_bas.proofs.FormSizes.{sized}
use Rattle.spec_bas.proofs.FileBasis.{one_basis}
use Rattle.spec_bas.proofs.NumbersBelow.{all_zip, chosen_all}
use Rattle.spec_bas.proofs.Meaning.{cards_mean}

-- ---- names

-- a name that tests as a row's name tests as a name
is_row : (name : Name) → is_row_name name ≡ true → is_name name ≡ true
unfolding is_row_name
is_row name h = (and_parts _ _ h).0

-- a model's name that is not empty is a word
model_name_word : (b : ℕ) (bs : Name) → is_model_name (b ∷ bs) ≡ true → IsWord (b ∷ bs)
unfolding is_model_name
model_name_word b bs h =
    record { some = refl; printable = (and_parts (nat_le (length (b ∷ bs)) 64) (list_all is_printable (b ∷ bs)) h).1 }

-- the names on a card are names
abbrev HasNames : ExactCard → Type 0
HasNames (Xu column row) = (is_name column ≡ true) × (is_name row ≡ true)
HasNames (Xl column row) = (is_name column ≡ true) × (is_name row ≡ true)
HasNames (Ul column) = is_name column ≡ true
HasNames (Ll column) = is_name column ≡ true

-- ---- what lines are

-- a line that is not skipped and begins with a blank says the card that its words make
data_read : (line : List ℕ) (words : List (List ℕ)) (card : ExactCard) → is_skipped line ≡ false →
    begins_with_blank line ≡ true → words_of line ≡ words → card_of words ≡ Some card →
    reading_of (Text line) ≡ Says card
unfolding reading_of text_reading
data_read line words card a b c d = rw (a, b, c, d) refl

-- a line that is not skipped and does not begin with a blank is read by its words as a section
head_read : (line : List ℕ) (words : List (List ℕ)) (reading : ExactReading) → is_skipped line ≡ false →
    begins_with_blank line ≡ false → words_of line ≡ words → section_reading words ≡ reading →
    reading_of (Text line) ≡ reading
unfolding reading_of text_reading
head_read line words reading a b c d = rw (a, b, c, d) refl

-- where a card's names are names, the card is short as written
short_card : (card : ExactCard) → HasNames card → IsShortCard (written_card card)
short_card (Xu column row) h = (
  (record { fits = omega arith; plain = refl }, (name_short column h.0, (name_short row h.1, tt))),
  omega arith,
)
short_card (Xl column row) h = (
  (record { fits = omega arith; plain = refl }, (name_short column h.0, (name_short row h.1, tt))),
  omega arith,
)
short_card (Ul column) h = ((record { fits = omega arith; plain = refl }, (name_short column h, tt)), omega arith)
short_card (Ll column) h = ((record { fits = omega arith; plain = refl }, (name_short column h, tt)), omega arith)

-- where a card's names are names, the line of the card is plain
plain_card : (card : ExactCard) → HasNames card → IsPlainLine (line_text Free (written_card card))
plain_card card h = plain_line Free (written_card card) (short_card card h)

-- where a card's names are names, the words of its line are the texts of its fields
card_words : (card : ExactCard) → HasNames card → words_of (line_text Free (written_card card)) ≡
    texts_of (fields_on card)
card_words card h =
    ap words_of (free_line [] (fields_on card)) ∙ words_of_joined (texts_of (fields_on card)) (by card h)
  where
    by : (card : ExactCard) → HasNames card → AreWords (texts_of (fields_on card))
    by (Xu column row) h = (record { some = refl; printable = refl }, (name_word column h.0, (name_word row h.1, tt)))
    by (Xl column row) h = (record { some = refl; printable = refl }, (name_word column h.0, (name_word row h.1, tt)))
    by (Ul column) h = (record { some = refl; printable = refl }, (name_word column h, tt))
    by (Ll column) h = (record { some = refl; printable = refl }, (name_word column h, tt))

-- a card's line of plain characters is not skipped
card_counts : (card : ExactCard) → list_all is_plain (line_text Free (written_card card)) ≡ true →
    is_skipped (line_text Free (written_card card)) ≡ false
unfolding is_skipped
card_counts (Xu column row) p = rw (stripped_plain (line_text Free (written_card (Xu column row))) p) refl
card_counts (Xl column row) p = rw (stripped_plain (line_text Free (written_card (Xl column row))) p) refl
card_counts (Ul column) p = rw (stripped_plain (line_text Free (written_card (Ul column))) p) refl
card_counts (Ll column) p = rw (stripped_plain (line_text Free (written_card (Ll column))) p) refl

-- the line of a card begins with a blank
card_begins : (card : ExactCard) → begins_with_blank (line_text Free (written_card card)) ≡ true
card_begins (Xu column row) = refl
card_begins (Xl column row) = refl
card_begins (Ul column) = refl
card_begins (Ll column) = refl

-- the texts of a card's fields make the card
card_said : (card : ExactCard) → card_of (texts_of (fields_on card)) ≡ Some card
unfolding card_of
card_said (Xu column row) = refl
card_said (Xl column row) = refl
card_said (Ul column) = refl
card_said (Ll column) = refl

-- where a card's names are names, its line is read as saying the card
card_read : (card : ExactCard) → HasNames card →
    reading_of (Text (line_text Free (written_card card))) ≡ Says card
card_read card h =
    data_read (line_text Free (written_card card)) (texts_of (fields_on card)) card
    (card_counts card (plain_card card h).plain) (card_begins card) (card_words card h) (card_said card)

-- ---- the first line and the last one

-- where the model's name is a word, the words of the first line are NAME and that name
name_words : (b : ℕ) (bs : List ℕ) → IsWord (b ∷ bs) →
    words_of (line_text Free (name_card (b ∷ bs))) ≡ codes "NAME" ∷ (b ∷ bs) ∷ []
unfolding words_of
name_words b bs h =
    parts_word_then (codes "NAME") (b ∷ bs) heading_word ∙ ap (λ ws. codes "NAME" ∷ ws) (parts_word (b ∷ bs) h)

-- a first line of plain characters is not skipped
name_counts : (b : ℕ) (bs : List ℕ) → list_all is_plain (line_text Free (name_card (b ∷ bs))) ≡ true →
    is_skipped (line_text Free (name_card (b ∷ bs))) ≡ false
unfolding is_skipped
name_counts b bs p = rw (stripped_plain (line_text Free (name_card (b ∷ bs))) p) refl

-- the section that begins with the word NAME is read as naming the model
section_named : (more : List (List ℕ)) → section_reading (codes "NAME" ∷ more) ≡ Named
unfolding section_reading
section_named more = refl

-- the first line with a model's name is read as naming the model
name_read : (name : Name) → is_model_name name ≡ true → reading_of (Text (line_text Free (name_card name))) ≡ Named
unfolding reading_of text_reading is_skipped words_of section_reading
name_read [] h = refl
name_read (b ∷ bs) h =
    head_read (line_text Free (name_card (b ∷ bs))) (codes "NAME" ∷ (b ∷ bs) ∷ []) Named
    (name_counts b bs (plain_line Free (name_card (b ∷ bs)) (name_card_short (b ∷ bs) h)).plain) refl
    (name_words b bs (model_name_word b bs h)) (section_named ((b ∷ bs) ∷ []))

-- the line ENDATA is read as the end
end_read : reading_of (Text (codes "ENDATA")) ≡ Ends
unfolding reading_of text_reading is_skipped words_of section_reading
end_read = refl

-- ---- all lines

-- where the names on cards are names, the lines of the cards are read as saying these cards
cards_read : (cards : List ExactCard) → All HasNames cards →
    readings_of (card_lines Free (map written_card cards)) ≡ map Says cards
cards_read [] h = refl
cards_read (card ∷ cards) h =
    ap (λ r. unless_skipped r ++ readings_of (card_lines Free (map written_card cards)))
    (card_read card (h 0 card (omega arith)))
    ∙ ap (λ rs. Says card ∷ rs) (cards_read cards (All-tail HasNames card cards h))

module _ (m : Model) (f : Form) (size : HasSizeOf m f) (kept : IsModel m) (basis : List Status) where
  -- the name of each column is one that a model may have
  column_is_name : (j : ℕ) → j < f.cols → is_name (column_name m j) ≡ true
  column_is_name j l = (kept.columns j no_column (omega (arith, l, size.cols))).name

  -- the name of each row is one that a model may have
  row_is_name : (i : ℕ) → i < f.rows → is_name (row_name m i) ≡ true
  row_is_name i l = is_row (row_name m i) (kept.rows i no_row (omega (arith, l, size.rows)))

  -- the names on the card of a column and a row are names, where theirs are
  pair_names : (s : Status) (column row : Name) → is_name column ≡ true → is_name row ≡ true →
      HasNames (paired s column row)
  pair_names Basic column row c r = (c, r)
  pair_names AtLower column row c r = (c, r)
  pair_names AtUpper column row c r = (c, r)
  pair_names AtZero column row c r = (c, r)

  -- the names on each card of a basis are names
  all_names : All HasNames (cards_of m f basis)
  unfolding cards_of
  all_names =
      All-append HasNames (map (pair_card m f basis) (zip (basic_columns f basis) (other_rows f basis)))
      (map (upper_card m) (upper_columns f basis))
      (All-map HasNames (pair_card m f basis) (zip (basic_columns f basis) (other_rows f basis))
      (All-weaker (λ (p : ℕ × ℕ). (p.0 < f.cols) × (p.1 < f.rows)) (λ p. HasNames (pair_card m f basis p))
      (λ p h. pair_names (basis_at basis (f.cols + p.1)) (column_name m p.0) (row_name m p.1)
      (column_is_name p.0 h.0) (row_is_name p.1 h.1))
      (zip (basic_columns f basis) (other_rows f basis))
      (all_zip (λ j. j < f.cols) (λ i. i < f.rows) (basic_columns f basis) (other_rows f basis)
      (chosen_all _ (λ j. j < f.cols) f.cols (λ k l e. l)) (chosen_all _ (λ i. i < f.rows) f.rows (λ k l e. l)))))
      (All-map HasNames (upper_card m) (upper_columns f basis)
      (chosen_all _ (λ j. HasNames (upper_card m j)) f.cols (λ k l e. column_is_name k l)))

  -- the line of a written card is plain
  abbrev IsPlainCard : WrittenCard → Type 0
  IsPlainCard card = IsPlainLine (line_text Free card)

  -- each line of the file of a basis is plain
  all_plain : All IsPlainCard (written_cards m f basis)
  unfolding written_cards
  all_plain =
      All-cons IsPlainCard (name_card m.name)
      (map written_card (cards_of m f basis) ++ section_card (codes "ENDATA") ∷ [])
      (plain_line Free (name_card m.name) (name_card_short m.name kept.name))
      (All-append IsPlainCard (map written_card (cards_of m f basis)) (section_card (codes "ENDATA") ∷ [])
      (All-map IsPlainCard written_card (cards_of m f basis)
      (All-weaker HasNames (λ card. IsPlainCard (written_card card)) plain_card (cards_of m f basis) all_names))
      (All-cons IsPlainCard (section_card (codes "ENDATA")) []
      (record { short = omega arith; plain = refl }) (All-nil IsPlainCard)))

  -- the lines of the file of a basis are those of its written cards
  text_lines : lines_of (bas_text m f basis) ≡ card_lines Free (written_cards m f basis)
  unfolding bas_text
  text_lines = has_its_lines Free (written_cards m f basis) all_plain

  -- the lines of the file of a basis are those of NAME and its cards, and then ENDATA
  lines_cut : card_lines Free (written_cards m f basis) ≡
      card_lines Free (name_card m.name ∷ map written_card (cards_of m f basis)) ++ Text (codes "ENDATA") ∷ []
  unfolding written_cards
  lines_cut =
      map-append (λ card. Text (line_text Free card)) (name_card m.name ∷ map written_card (cards_of m f basis))
      (section_card (codes "ENDATA") ∷ [])

  -- the lines of the file of a basis have its cards before ENDATA
  has_cards : HasCards (lines_of (bas_text m f basis)) (cards_of m f basis)
  has_cards = record {
    front = card_lines Free (name_card m.name ∷ map written_card (cards_of m f basis));
    last = Text (codes "ENDATA");
    more = [];
    cut = text_lines ∙ lines_cut;
    ends = end_read;
    before = inr
        (ap (λ r. unless_skipped r ++ readings_of (card_lines Free (map written_card (cards_of m f basis))))
        (name_read m.name kept.name)
        ∙ ap (λ rs. Named ∷ rs) (cards_read (cards_of m f basis) all_names));
  }

  -- the file that a basis of the form is written as spells that basis
  pub spells : IsBasisOf f basis → SpellsBasis m f (lines_of (bas_text m f basis)) basis
  spells fits = record {
    cards = cards_of m f basis;
    has = has_cards;
    are = cards_mean m f size kept basis fits;
  }

-- a file written from a basis spells another list of statuses exactly where that is the basis
pub written_spells : (limit : Option ℕ) (m : Model) (f : Form) (basis other : List Status) → IsModel m →
    form_of limit m ≡ Ok f → IsBasisOf f basis →
    (SpellsBasis m f (lines_of (bas_text m f basis)) other ↔ other ≡ basis)
written_spells limit m f basis other kept is fits =
    let size = sized limit m f is in
    let w = spells m f size kept basis fits in (
      λ v. one_basis m f size (lines_of (bas_text m f basis)) other basis v w,
      λ e. subst (SpellsBasis m f (lines_of (bas_text m f basis))) (sym e) w,
    )
