-- A text of a model is whole at a line that begins in column 1 with the word ENDATA, and at no other line.
use Rattle.std.proofs.Common.{◌≡◌, ℕ, Bool, true, false, ◌&&◌, not, cond, Option, Some, None, Ok, Err, List, [], ◌∷◌}
use Rattle.std.proofs.Common.{refl, ap, ◌∙◌}
use Rattle.std.specs.Prelude.{codes}
use Rattle.spec_text.specs.declared.line.Line.{Line}
use Rattle.spec_text.specs.declared.line.Line.TheVariants as line
use Rattle.spec_text.specs.Words.{same, words_of}
use Rattle.spec_model.specs.declared.parts.SizeLimits.{SizeLimits}
use Rattle.spec_model.specs.Model.{Model}
use Rattle.spec_mps.specs.declared.card.Card.TheVariants as card
use Rattle.spec_mps.specs.declared.fault.Code.TheVariants as code
use Rattle.spec_mps.specs.declared.style.Style.{Style}
use Rattle.spec_mps.specs.declared.style.Style.TheVariants.{Free, Fixed}
use Rattle.spec_mps.specs.declared.section.Section.{Section}
use Rattle.spec_mps.specs.declared.section.Section.TheVariants as section
use Rattle.spec_mps.specs.Cards.{is_skipped, begins_with_blank}
use Rattle.spec_mps.specs.Checks.{Check}
use Rattle.spec_mps.specs.Fields.{Fields, CardReading, Is, Misplaced, misplaced_from, column_fields, placed}
use Rattle.spec_mps.specs.Fields.{numbered_from, word_fields, free_fields, fixed_fields, text_at}
use Rattle.spec_mps.specs.Shapes.{section_of}
use Rattle.spec_mps.specs.Reader.{State}
use Rattle.spec_mps.specs.Steps.{Done, More, Outcome, has_begun, may_follow, begun, headed, more, begin, section_card}
use Rattle.spec_mps.specs.Steps.{data_card, on_reading, reading_of, step}
use Rattle.spec_mps.proofs.CheckSteps.{must_ok, need_ok}
use Rattle.spec_server.specs.Script.{begins_with_word, ends_text}

-- ---- what the line's card is

-- a check that leads on to more lines does not end a text
not_more : (check : Check State) (m : Model) → more check ≡ Ok (Done m) → ⊥
not_more (Ok s) m h = cc
not_more (Err c) m h = cc

-- a section whose card ends a text is that of the end
begins_end : (s : State) (part : Section) (word : List ℕ) (m : Model) → begin s part word ≡ Ok (Done m) →
    part ≡ section.End
begins_end s section.End word m h = refl
begins_end s part word m h = absurd (not_more (headed (begun s part) part word) m h)

-- a section card, whose word is that of the end
record IsEndCard (reading : CardReading) : Type 0 where
  fields : Fields
  is : reading ≡ Is (card.Section fields)
  word : section_of (text_at 1 fields) ≡ Some section.End

-- a section card that ends a text has the word of the end
card_ends : (s : State) (fields : Fields) (m : Model) → section_card s fields ≡ Ok (Done m) →
    section_of (text_at 1 fields) ≡ Some section.End
unfolding section_card
card_ends s fields m h =
    let a = need_ok (section_of (text_at 1 fields)) code.UnknownSection _ (Done m) h in
    let b = must_ok (may_follow s.seen a.0 && not (has_begun s.seen a.0)) code.SectionOrder _ (Done m) a.2 in
    a.1 ∙ ap Some (begins_end s a.0 (text_at 2 fields) m b.1)

-- where the text of a model is complete after a card, the card is ENDATA
reading_ends : (limits : SizeLimits) (style : Style) (s : State) (reading : CardReading) (m : Model) →
    on_reading limits style s reading ≡ Ok (Done m) → IsEndCard reading
reading_ends limits style s (Is card.Skip) m h = absurd (let z : ◌≡◌ {A = Outcome} (Ok (More s)) (Ok (Done m)) = h in cc)
reading_ends limits style s (Is (card.Section fields)) m h =
    record { fields = fields; is = refl; word = card_ends s fields m h }
reading_ends limits style s (Is (card.Given fields)) m h =
    absurd (not_more (data_card limits style s.part s fields) m h)
reading_ends limits style s (Misplaced column) m h =
    absurd (let z : ◌≡◌ {A = Outcome} (Err code.CardShape) (Ok (Done m)) = h in cc)

-- ---- what the line is

-- a section card begins in column 1, and its fields are the line's words
record IsHeading (bytes : List ℕ) (fields : Fields) : Type 0 where
  first : begins_with_blank bytes ≡ false
  words : word_fields bytes ≡ fields

-- a data card is no section card
not_given : (a b : Fields) → ◌≡◌ {A = CardReading} (Is (card.Given a)) (Is (card.Section b)) → ⊥
not_given a b e = cc

-- what fields in their columns give is no section card
placed_given : (o : Option ℕ) (a b : Fields) → placed o a ≡ Is (card.Section b) → ⊥
placed_given None a b e = cc
placed_given (Some column) a b e = cc

-- a section card in free form begins in column 1, and its fields are the line's words
free_heading : (bytes : List ℕ) (fields : Fields) → free_fields bytes ≡ Is (card.Section fields) →
    IsHeading bytes fields
unfolding free_fields
free_heading bytes fields h = by (is_skipped bytes) (begins_with_blank bytes) refl h
  where
    by : (s b : Bool) → begins_with_blank bytes ≡ b →
        cond s (Is card.Skip) (cond b (Is (card.Given (word_fields bytes))) (Is (card.Section (word_fields bytes)))) ≡
        Is (card.Section fields) →
        IsHeading bytes fields
    by true b e h = cc
    by false true e h = absurd (not_given (word_fields bytes) fields h)
    by false false e h = record { first = e; words = cc }

-- a section card in fixed form begins in column 1, and its fields are the line's words
fixed_heading : (bytes : List ℕ) (fields : Fields) → fixed_fields bytes ≡ Is (card.Section fields) →
    IsHeading bytes fields
unfolding fixed_fields
fixed_heading bytes fields h = by (is_skipped bytes) (begins_with_blank bytes) refl h
  where
    by : (s b : Bool) → begins_with_blank bytes ≡ b →
        cond s (Is card.Skip) (cond b (placed (misplaced_from 1 bytes) (column_fields bytes))
        (Is (card.Section (word_fields bytes)))) ≡ Is (card.Section fields) →
        IsHeading bytes fields
    by true b e h = cc
    by false true e h = absurd (placed_given (misplaced_from 1 bytes) (column_fields bytes) fields h)
    by false false e h = record { first = e; words = cc }

-- a section card in any form begins in column 1, and its fields are the line's words
heading : (style : Style) (part : Option Section) (bytes : List ℕ) (fields : Fields) →
    reading_of style part bytes ≡ Is (card.Section fields) → IsHeading bytes fields
heading Free part bytes fields h = free_heading bytes fields h
heading Fixed (Some section.Sense) bytes fields h = free_heading bytes fields h
heading Fixed part bytes fields h = fixed_heading bytes fields h

-- the word of the end is ENDATA
is_endata : (word : List ℕ) → section_of word ≡ Some section.End → same word (codes "ENDATA") ≡ true
unfolding section_of
is_endata word h =
    by (same word (codes "NAME")) (same word (codes "OBJSENSE")) (same word (codes "ROWS"))
    (same word (codes "COLUMNS")) (same word (codes "RHS")) (same word (codes "RANGES")) (same word (codes "BOUNDS"))
    (same word (codes "ENDATA")) h
  where
    by : (a b c d e f g t : Bool)
        → cond {A = Option Section} a (Some section.Name)
        (cond b (Some section.Sense) (cond c (Some section.Rows) (cond d (Some section.Columns)
        (cond e (Some section.RightSides)
        (cond f (Some section.Ranges) (cond g (Some section.Bounds) (cond t (Some section.End) None))))))) ≡ Some
        section.End
        → t ≡ true
    by true b c d e f g t h = cc
    by false true c d e f g t h = cc
    by false false true d e f g t h = cc
    by false false false true e f g t h = cc
    by false false false false true f g t h = cc
    by false false false false false true g t h = cc
    by false false false false false false true t h = cc
    by false false false false false false false true h = refl
    by false false false false false false false false h = cc

-- where the first field made of words is the word of the end, the words begin with ENDATA
words_end : (ws : List (List ℕ)) → section_of (text_at 1 (numbered_from 1 ws)) ≡ Some section.End →
    begins_with_word (codes "ENDATA") ws ≡ true
words_end [] h = is_endata [] h
words_end (w ∷ ws) h = is_endata w h

-- a line that is a section card with the word of the end ends a text
line_ends : (bytes : List ℕ) (fields : Fields) → IsHeading bytes fields →
    section_of (text_at 1 fields) ≡ Some section.End → ends_text (line.Text bytes) ≡ true
unfolding ends_text word_fields
line_ends bytes fields h e =
    rw (h.first, words_end (words_of bytes) (ap (λ fs. section_of (text_at 1 fs)) h.words ∙ e)) refl

-- a line at which the reader of texts is done ends a text
pub done_ends : (limits : SizeLimits) (style : Style) (s : State) (l : Line (List ℕ)) (m : Model) →
    step limits style s l ≡ Ok (Done m) →
    ends_text l ≡ true
unfolding step
done_ends limits style s (line.Text bytes) m h =
    let r = reading_ends limits style s (reading_of style s.part bytes) m h in
    line_ends bytes r.fields (heading style s.part bytes r.fields r.is) r.word
done_ends limits style s (line.Long len) m h = absurd (let z : ◌≡◌ {A = Outcome} (Err code.Limit) (Ok (Done m)) = h in cc)
done_ends limits style s line.End m h = absurd (let z : ◌≡◌ {A = Outcome} (Err code.Cut) (Ok (Done m)) = h in cc)
done_ends limits style s line.Over m h = absurd (let z : ◌≡◌ {A = Outcome} (Err code.Cut) (Ok (Done m)) = h in cc)
