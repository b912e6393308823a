-- The lines that begin sections, and what they do to the cards to come.
--
-- `word_is`: a word that the reader takes for a section is that section's word.
-- `heading_is`: a line with a section's word in column 1 is the heading of that section and of no other.
-- `cards_begin`: a heading other than ENDATA makes its section, which has not begun, the one that is here, and leaves
--   all cards to come.
-- `title_begin`: a heading other than ENDATA becomes its section's title, where that has not begun, and leaves the
--   titles of all other sections.
-- `cards_end`: behind ENDATA no cards are to come.
-- `title_end`: behind ENDATA no headings are to come.
use Rattle.std.proofs.Common.{sym, ◌≡◌, ℕ, Bool, true, false, not, ◌&&◌, ◌||◌, cond, Option, Some}
use Rattle.std.proofs.Common.{None, option_map, List, [], ◌∷◌, ◌++◌, refl, ap, ◌∙◌, append-nil}
use Rattle.std.specs.List.{find}
use Rattle.std.proofs.lemmas.Option.{same_Some}
use Rattle.spec_text.specs.Words.{same}
use Rattle.spec_text.proofs.WordLemmas.{same_true}
use Rattle.spec_text.specs.declared.line.Line.{Line}
use Rattle.spec_mps.specs.declared.style.Style.{Style}
use Rattle.spec_mps.specs.declared.section.Section.{Section}
use Rattle.spec_mps.specs.declared.section.Section.TheVariants as section
use Rattle.spec_mps.specs.Cards.{is_skipped, begins_with_blank}
use Rattle.spec_mps.specs.Fields.{Fields, word_fields, text_at}
use Rattle.spec_mps.specs.Shapes.{look_up, section_words, section_of}
use Rattle.spec_mps.specs.TextCards.{Lines, bytes_of, section_word, is_heading, begins}
use Rattle.spec_mps.proofs.CardsSoFar.{before, behind, is_section, or_else, titled, lines_by}
use Rattle.spec_mps.proofs.CardsSoFar.{cards_of, cards_to_come, title_by, title_to_come}

-- ---- the words of sections

-- in this table of words and sections, each word is the word of its section
abbrev AllSay : List (List ℕ × Section) → Type 0
AllSay [] = Unit {0}
AllSay (x ∷ xs) = (x.0 ≡ section_word x.1) × AllSay xs

-- a word that a table of sections knows is the word of the section found
looked_up : (word : List ℕ) (part : Section) (table : List (List ℕ × Section)) → look_up word table ≡ Some part →
    AllSay table → word ≡ section_word part
looked_up word part [] h a = absurd (cc)
looked_up word part (x ∷ xs) h a = go (same word x.0) refl (λ k. looked_up word part xs k a.1) h
  where
    go : (b : Bool) → same word x.0 ≡ b → (look_up word xs ≡ Some part → word ≡ section_word part) →
        cond b (Some x.1) (look_up word xs) ≡ Some part → word ≡ section_word part
    go true e f k = same_true word x.0 e ∙ a.0 ∙ ap section_word (same_Some x.1 part k)
    go false e f k = f k

pub word_is : (word : List ℕ) (part : Section) → section_of word ≡ Some part → word ≡ section_word part
unfolding section_of
word_is word part h =
    looked_up word part section_words h (refl, (refl, (refl, (refl, (refl, (refl, (refl, (refl, tt))))))))

-- ---- a line that begins a section

-- the line is the heading of this section, and of no other
pub record IsHeading (l : Line (List ℕ)) (part : Section) : Type 0 where
  pub heading : is_heading l ≡ true
  pub begins_one : (q : Section) → begins q l ≡ is_section (Some part) q

pub heading_is : (l : Line (List ℕ)) (part : Section) → is_skipped (bytes_of l) ≡ false →
    begins_with_blank (bytes_of l) ≡ false → section_of (text_at 1 (word_fields (bytes_of l))) ≡ Some part →
    IsHeading l part
heading_is l part e f h =
    let g : is_heading l ≡ true = λ i. not (e i) && not (f i) in
    record {
      heading = g;
      begins_one = λ q.
          ap (λ t. t && same (text_at 1 (word_fields (bytes_of l))) (section_word q)) g
          ∙ ap (λ word. same word (section_word q)) (word_is (text_at 1 (word_fields (bytes_of l))) part h);
    }

-- a heading other than ENDATA is the first of the lines before ENDATA
goes_on : (l : Line (List ℕ)) (part : Section) (lines : Lines) → IsHeading l part →
    is_section (Some part) section.End ≡ false →
    before (begins section.End) (l ∷ lines) ≡ l ∷ before (begins section.End) lines
goes_on l part lines h e = ap (λ b. cond b [] (l ∷ before (begins section.End) lines)) (h.begins_one section.End ∙ e)

-- true is not false
never : true ≡ false → ⊥
never k = cc

-- a heading is no card: the cards to come are those behind it
cards_heading : (style : Style) (at seen now : Bool) (part q : Section) (l : Line (List ℕ)) (lines : Lines) →
    IsHeading l part → is_section (Some part) section.End ≡ false → is_section (Some part) q ≡ now →
    (at ≡ true → seen ≡ true) → (now ≡ true → seen ≡ false) →
    cards_of style q (lines_by at seen q (before (begins section.End) (l ∷ lines)))
    ≡ cards_of style q (lines_by now (now || seen) q (before (begins section.End) lines))
cards_heading style at seen now part q l lines h e n told new =
    ap (λ ls. cards_of style q (lines_by at seen q ls)) (goes_on l part lines h e) ∙ go at seen now n told new
  where
    go : (at seen now : Bool) → is_section (Some part) q ≡ now → (at ≡ true → seen ≡ true) →
        (now ≡ true → seen ≡ false) →
        cards_of style q (lines_by at seen q (l ∷ before (begins section.End) lines))
        ≡ cards_of style q (lines_by now (now || seen) q (before (begins section.End) lines))
    go true true true n told new = absurd (never (new refl))
    go true true false n told new =
        ap (λ b. cards_of style q (cond b [] (l ∷ before is_heading (before (begins section.End) lines)))) h.heading
    go true false now n told new = absurd (never (sym (told refl)))
    go false true true n told new = absurd (never (new refl))
    go false true false n told new = refl
    go false false true n told new =
        ap (λ b. cards_of style q (before is_heading
        (cond b (before (begins section.End) lines) (behind (begins q) (before (begins section.End) lines)))))
        (h.begins_one q ∙ n)
    go false false false n told new =
        ap (λ b. cards_of style q (before is_heading
        (cond b (before (begins section.End) lines) (behind (begins q) (before (begins section.End) lines)))))
        (h.begins_one q ∙ n)

pub cards_begin : (style : Style) (here : Option Section) (seen : Bool)
    (part q : Section) (l : Line (List ℕ)) (lines : Lines) →
    IsHeading l part → is_section (Some part) section.End ≡ false → (is_section here q ≡ true → seen ≡ true) →
    (is_section (Some part) q ≡ true → seen ≡ false) →
    cards_to_come style here seen q (l ∷ lines)
    ≡ cards_to_come style (Some part) (is_section (Some part) q || seen) q lines
unfolding cards_to_come
cards_begin style here seen part q l lines h e told new =
    cards_heading style (is_section here q) seen (is_section (Some part) q) part q l lines h e refl told new

-- a heading is its section's title, and leaves the titles of the others to come
title_heading : (seen now : Bool) (part q : Section) (l : Line (List ℕ)) (lines : Lines) (o : Option Fields) →
    IsHeading l part → is_section (Some part) section.End ≡ false → is_section (Some part) q ≡ now →
    (now ≡ true → seen ≡ false) →
    or_else o (title_by seen q (before (begins section.End) (l ∷ lines)))
    ≡ or_else (titled now o (word_fields (bytes_of l))) (title_by (now || seen) q (before (begins section.End) lines))
title_heading seen now part q l lines o h e n new =
    ap (λ ls. or_else o (title_by seen q ls)) (goes_on l part lines h e) ∙ go seen now n new
  where
    known : (o : Option Fields) →
        or_else o (Some (word_fields (bytes_of l))) ≡ or_else (or_else o (Some (word_fields (bytes_of l)))) None
    known None = refl
    known (Some fields) = refl

    go : (seen now : Bool) → is_section (Some part) q ≡ now → (now ≡ true → seen ≡ false) →
        or_else o (title_by seen q (l ∷ before (begins section.End) lines))
        ≡ or_else (titled now o (word_fields (bytes_of l)))
        (title_by (now || seen) q (before (begins section.End) lines))
    go true true n new = absurd (never (new refl))
    go true false n new = refl
    go false true n new =
        ap (λ b. or_else o (option_map (λ l. word_fields (bytes_of l))
        (cond b (Some l) (find (begins q) (before (begins section.End) lines))))) (h.begins_one q ∙ n) ∙ known o
    go false false n new =
        ap (λ b. or_else o (option_map (λ l. word_fields (bytes_of l))
        (cond b (Some l) (find (begins q) (before (begins section.End) lines))))) (h.begins_one q ∙ n)

pub title_begin : (seen : Bool) (part q : Section) (l : Line (List ℕ)) (lines : Lines) (o : Option Fields) →
    IsHeading l part → is_section (Some part) section.End ≡ false → (is_section (Some part) q ≡ true → seen ≡ false) →
    or_else o (title_to_come seen q (l ∷ lines))
    ≡ or_else (titled (is_section (Some part) q) o (word_fields (bytes_of l)))
    (title_to_come (is_section (Some part) q || seen) q lines)
unfolding title_to_come
title_begin seen part q l lines o h e new = title_heading seen (is_section (Some part) q) part q l lines o h e refl new

-- ---- ENDATA

-- no line stands before ENDATA where the first line is ENDATA
ends : (l : Line (List ℕ)) (lines : Lines) → IsHeading l section.End → before (begins section.End) (l ∷ lines) ≡ []
ends l lines h = ap (λ b. cond b [] (l ∷ before (begins section.End) lines)) (h.begins_one section.End)

pub cards_end : (style : Style) (here : Option Section) (seen : Bool)
    (q : Section) (l : Line (List ℕ)) (lines : Lines) (cards : List Fields) →
    IsHeading l section.End → cards ++ cards_to_come style here seen q (l ∷ lines) ≡ cards
unfolding cards_to_come
cards_end style here seen q l lines cards h =
    ap (λ ls. cards ++ cards_of style q (lines_by (is_section here q) seen q ls)) (ends l lines h)
    ∙ ap (λ more. cards ++ more) (none (is_section here q) seen)
    ∙ append-nil cards
  where
    none : (at seen : Bool) → cards_of style q (lines_by at seen q []) ≡ []
    none true seen = refl
    none false true = refl
    none false false = refl

pub title_end : (seen : Bool) (q : Section) (l : Line (List ℕ)) (lines : Lines) (o : Option Fields) →
    IsHeading l section.End → or_else o (title_to_come seen q (l ∷ lines)) ≡ o
unfolding title_to_come
title_end seen q l lines o h = ap (λ ls. or_else o (title_by seen q ls)) (ends l lines h) ∙ none seen o
  where
    none : (seen : Bool) (o : Option Fields) → or_else o (title_by seen q []) ≡ o
    none true None = refl
    none true (Some fields) = refl
    none false None = refl
    none false (Some fields) = refl
