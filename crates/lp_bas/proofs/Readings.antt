-- What the bytes of a line are, by its card in free form.
use Rattle.std.proofs.Common.{◌≡◌, ℕ, ◌+◌, Bool, true, false, cond, List, [], ◌∷◌, refl, sym, ap, ◌∙◌}
use Rattle.spec_text.specs.Words.{words_of}
use Rattle.spec_mps.specs.declared.card.Card.TheVariants.{Skip, Section, Given}
use Rattle.spec_mps.specs.Cards.{is_skipped, begins_with_blank}
use Rattle.spec_mps.specs.Fields.{Fields, CardReading, Is, Misplaced, free_fields, word_fields, numbered_from, texts_of}
use Rattle.spec_bas.specs.declared.card.Reading.TheVariants.{Skipped}
use Rattle.spec_bas.specs.Cards.{ExactReading, card_of, data_reading, section_reading, text_reading}

-- the texts of texts that were numbered as fields are these texts
texts_numbered : (n : ℕ) (ws : List (List ℕ)) → texts_of (numbered_from n ws) ≡ ws
texts_numbered n [] = refl
texts_numbered n (w ∷ ws) = ap (λ vs. w ∷ vs) (texts_numbered (n + 1) ws)

module _ (bytes : List ℕ) where
  texts_are_words : texts_of (word_fields bytes) ≡ words_of bytes
  unfolding word_fields
  texts_are_words = texts_numbered 1 (words_of bytes)

  abbrev card_by : Bool → Bool → CardReading
  card_by c d = cond c (Is Skip) (cond d (Is (Given (word_fields bytes))) (Is (Section (word_fields bytes))))

  abbrev reading_by : Bool → Bool → ExactReading
  reading_by c d = cond c Skipped (cond d (data_reading (card_of (words_of bytes))) (section_reading (words_of bytes)))

  skip_by : (c d : Bool) → card_by c d ≡ Is Skip → reading_by c d ≡ Skipped
  skip_by true d h = refl
  skip_by false true h = cc
  skip_by false false h = cc

  section_by : (c d : Bool) (fields : Fields) → card_by c d ≡ Is (Section fields) →
      reading_by c d ≡ section_reading (texts_of fields)
  section_by true d fields h = cc
  section_by false true fields h = cc
  section_by false false fields h =
      let e : word_fields bytes ≡ fields = cc in ap section_reading (sym texts_are_words ∙ ap texts_of e)

  given_by : (c d : Bool) (fields : Fields) → card_by c d ≡ Is (Given fields) →
      reading_by c d ≡ data_reading (card_of (texts_of fields))
  given_by true d fields h = cc
  given_by false false fields h = cc
  given_by false true fields h =
      let e : word_fields bytes ≡ fields = cc in
      ap (λ ws. data_reading (card_of ws)) (sym texts_are_words ∙ ap texts_of e)

  misplaced_by : (c d : Bool) (column : ℕ) → card_by c d ≡ Misplaced column → ⊥
  misplaced_by true d column h = cc
  misplaced_by false true column h = cc
  misplaced_by false false column h = cc

  -- a line that free form skips is skipped in a basis file
  pub skip_reading : free_fields bytes ≡ Is Skip → text_reading bytes ≡ Skipped
  unfolding free_fields text_reading
  skip_reading h = skip_by (is_skipped bytes) (begins_with_blank bytes) h

  -- a line that is a heading in free form is read in a basis file as a heading with these words
  pub section_is : (fields : Fields) → free_fields bytes ≡ Is (Section fields) →
      text_reading bytes ≡ section_reading (texts_of fields)
  unfolding free_fields text_reading
  section_is fields h = section_by (is_skipped bytes) (begins_with_blank bytes) fields h

  -- a line that is a data card in free form is read in a basis file as the card that its words say
  pub given_is : (fields : Fields) → free_fields bytes ≡ Is (Given fields) →
      text_reading bytes ≡ data_reading (card_of (texts_of fields))
  unfolding free_fields text_reading
  given_is fields h = given_by (is_skipped bytes) (begins_with_blank bytes) fields h

  -- in free form no byte of a line is misplaced
  pub none_misplaced : (column : ℕ) → free_fields bytes ≡ Misplaced column → ⊥
  unfolding free_fields
  none_misplaced column h = misplaced_by (is_skipped bytes) (begins_with_blank bytes) column h
