-- What stands before ROWS in a written text: the model's name and its sense.
--
-- `heading_word`: the word NAME is a word of a card: not empty, without blanks.
-- `start_is_read`: the cards before ROWS of a kept model lead the reader to the model's name and sense.
use Rattle.std.proofs.Common.{◌≡◌, ℕ, true, Some, None, Ok, List, [], ◌∷◌, length, refl, ap, ◌∙◌}
use Rattle.std.specs.Prelude.{codes, nat_le}
use Rattle.std.specs.List.{list_all}
use Rattle.std.proofs.lemmas.Bool.{and_parts}
use Rattle.spec_text.specs.declared.line.Line.TheVariants.{Text}
use Rattle.spec_text.specs.Words.{words_of}
use Rattle.spec_model.specs.declared.parts.Sense.{Sense}
use Rattle.spec_model.specs.declared.parts.Sense.TheVariants.{Min, Max}
use Rattle.spec_model.specs.Model.{Name, Model}
use Rattle.spec_model.specs.Kept.{IsModel, is_model_name, is_printable, usual_limits}
use Rattle.spec_mps.specs.declared.card.Card.TheVariants.{Section as Heading}
use Rattle.spec_mps.specs.declared.style.Style.{Style}
use Rattle.spec_mps.specs.declared.style.Style.TheVariants.{Free, Fixed}
use Rattle.spec_mps.specs.declared.section.Section.TheVariants as section
use Rattle.spec_mps.specs.Cards.{is_skipped}
use Rattle.spec_mps.specs.Fields.{Is, free_fields, fixed_fields, word_fields}
use Rattle.spec_mps.specs.Shapes.{section_of, sense_of}
use Rattle.spec_mps.specs.Reader.{start}
use Rattle.spec_mps.specs.Steps.{More, on_reading, reading_of, section_card, step, take_sense}
use Rattle.spec_mps.specs.Written.{field_at, name_card, sense_cards, line_text, section_card as one_word}
use Rattle.spec_mps.specs.NumberWritten.{IsWord}
use Rattle.spec_mps.proofs.WrittenSteps.{Goes, StartIsRead, named, with_start_of}
use Rattle.spec_mps.proofs.WrittenWords.{is_plain, plain_text, stripped_plain, parts_word, parts_word_then}
use Rattle.spec_mps.proofs.WrittenRows.{goes_one, goes_then}

pub heading_word : IsWord (codes "NAME")
heading_word = record { some = refl; printable = refl }

-- the words of a written line NAME are NAME and the model's name
named_words : (style : Style) (b : ℕ) (bs : List ℕ) → IsWord (b ∷ bs) →
    words_of (line_text style (name_card (b ∷ bs))) ≡ codes "NAME" ∷ (b ∷ bs) ∷ []
unfolding words_of
named_words Free b bs h =
    parts_word_then (codes "NAME") (b ∷ bs) heading_word ∙ ap (λ ws. codes "NAME" ∷ ws) (parts_word (b ∷ bs) h)
named_words Fixed b bs h =
    parts_word_then (codes "NAME") (32 ∷ 32 ∷ 32 ∷ 32 ∷ 32 ∷ 32 ∷ 32 ∷ 32 ∷ 32 ∷ b ∷ bs) heading_word
    ∙ ap (λ ws. codes "NAME" ∷ ws) (parts_word (b ∷ bs) h)

-- the bytes of a written line NAME with a name are plain
plain_name : (style : Style) (b : ℕ) (bs : List ℕ) → IsWord (b ∷ bs) →
    list_all is_plain (line_text style (name_card (b ∷ bs))) ≡ true
plain_name Free b bs h = plain_text (b ∷ bs) h.printable
plain_name Fixed b bs h = plain_text (b ∷ bs) h.printable

-- a written line NAME with a name is read as a heading of these two words
named_read : (style : Style) (b : ℕ) (bs : List ℕ) → IsWord (b ∷ bs) →
    reading_of style None (line_text style (name_card (b ∷ bs)))
    ≡ Is (Heading (field_at 1 (codes "NAME") ∷ field_at 2 (b ∷ bs) ∷ []))
unfolding free_fields fixed_fields is_skipped word_fields
named_read Free b bs h =
    rw (stripped_plain (line_text Free (name_card (b ∷ bs))) (plain_name Free b bs h), named_words Free b bs h) refl
named_read Fixed b bs h =
    rw (stripped_plain (line_text Fixed (name_card (b ∷ bs))) (plain_name Fixed b bs h), named_words Fixed b bs h) refl

-- a written line NAME without a name is read as a heading of that one word
unnamed_read : (style : Style) → reading_of style None (codes "NAME") ≡ Is (Heading (field_at 1 (codes "NAME") ∷ []))
unfolding free_fields fixed_fields is_skipped word_fields words_of
unnamed_read Free = refl
unnamed_read Fixed = refl

-- a written line NAME leads from the start to the state with the model's name
name_step : (style : Style) (name : Name) → is_model_name name ≡ true →
    step usual_limits style start (Text (line_text style (name_card name))) ≡ Ok (More (named name))
unfolding step section_card section_of is_model_name
name_step Free [] h = ap (on_reading usual_limits Free start) (unnamed_read Free)
name_step Fixed [] h = ap (on_reading usual_limits Fixed start) (unnamed_read Fixed)
name_step style (b ∷ bs) h =
    let word : IsWord (b ∷ bs) =
    record { some = refl; printable = (and_parts (nat_le (length (b ∷ bs)) 64) (list_all is_printable (b ∷ bs)) h).1 } in
    ap (on_reading usual_limits style start) (named_read style b bs word) ∙ rw h refl

-- a written line OBJSENSE MAX is read as a heading of these two words
sense_read : (style : Style) →
    reading_of style (Some section.Name) (codes "OBJSENSE MAX")
    ≡ Is (Heading (field_at 1 (codes "OBJSENSE") ∷ field_at 2 (codes "MAX") ∷ []))
unfolding free_fields fixed_fields is_skipped word_fields words_of
sense_read Free = refl
sense_read Fixed = refl

-- a written line OBJSENSE MAX leads from the state with a name to that with the sense MAX
sense_step : (style : Style) (name : Name) →
    step usual_limits style (named name) (Text (codes "OBJSENSE MAX")) ≡ Ok (More (with_start_of name Max))
unfolding step section_card section_of sense_of take_sense
sense_step style name = ap (on_reading usual_limits style (named name)) (sense_read style)

pub start_is_read : (style : Style) (m : Model) → IsModel m → StartIsRead style m
start_is_read style m kept = by m.sense
  where
    first : Goes style start (name_card m.name ∷ []) (named m.name)
    first = goes_one style start (named m.name) (name_card m.name) (name_step style m.name kept.name)

    by : (sense : Sense) → Goes style start (name_card m.name ∷ sense_cards sense) (with_start_of m.name sense)
    by Min = first
    by Max =
        goes_then style start (named m.name) (with_start_of m.name Max)
        (name_card m.name) (one_word (codes "OBJSENSE MAX") ∷ []) first
        (goes_one style (named m.name) (with_start_of m.name Max)
        (one_word (codes "OBJSENSE MAX")) (sense_step style m.name))
