-- The cards of a text so far, and those that are still to come.
--
-- `before_is`: the elements before the first that passes a test are those that std's function gives.
-- `behind_is`: the elements behind the first that passes a test are those that std's function gives.
-- `same_section`: two sections with the same word are the same.
-- `begun_elsewhere`: where a section begins, whether another one has begun stays as it was.
-- `skipped_plain`: a comment or a blank line is no heading, and begins no section.
-- `data_plain`: a line with a blank in column 1 is no heading, and begins no section.
-- `title_plain`: a line that is no heading leaves the heading to come as it is.
-- `cards_skip`: a comment or a blank line leaves the cards to come as they are.
-- `cards_data`: a data card of the current section is appended to the cards of that section that were read.
use Rattle.std.proofs.Common.{◌≡◌, ℕ, ◌+◌, Bool, true, false, not, ◌&&◌, cond}
use Rattle.std.proofs.Common.{Option, Some, None, option_map, List, [], ◌∷◌, ◌++◌, map, take, drop}
use Rattle.std.proofs.Common.{refl, sym, ap, ◌∙◌, append_assoc, add-one, add_comm}
use Rattle.std.specs.List.{filter, find, before_first, after_first, position_or_len}
use Rattle.std.proofs.lemmas.Option.{same_Some}
use Rattle.spec_text.specs.Words.{same}
use Rattle.spec_text.proofs.WordLemmas.{same_true}
use Rattle.spec_text.specs.declared.line.Line.{Line}
use Rattle.spec_mps.specs.declared.style.Style.{Style}
use Rattle.spec_mps.specs.declared.section.Section.{Section}
use Rattle.spec_mps.specs.declared.section.Section.TheVariants as section
use Rattle.spec_mps.specs.declared.section.Seen.{Seen}
use Rattle.spec_mps.specs.Cards.{is_skipped, begins_with_blank}
use Rattle.spec_mps.specs.Fields.{Fields, word_fields, text_at}
use Rattle.spec_mps.specs.Shapes.{section_of}
use Rattle.spec_mps.specs.Steps.{has_begun, with_section}
use Rattle.spec_mps.specs.TextCards.{Lines, bytes_of, section_word, is_heading, begins, fields_in}

-- ---- the elements before and after the first that passes a test

-- the items before the first one that passes the test; all where none passes
abbrev pub before : {A : Type 0} → (A → Bool) → List A → List A
before test [] = []
before test (x ∷ xs) = cond (test x) [] (x ∷ before test xs)

-- the items behind the first one that passes the test; none where none passes
abbrev pub behind : {A : Type 0} → (A → Bool) → List A → List A
behind test [] = []
behind test (x ∷ xs) = cond (test x) xs (behind test xs)

-- with one item more in front, none is taken if that passes, else one more
take_more : {A : Type 0} (b : Bool) (n : ℕ) (x : A) (xs ys : List A) → take n xs ≡ ys →
    take (cond (not b) (1 + n) 0) (x ∷ xs) ≡ cond b [] (x ∷ ys)
take_more true n x xs ys h = refl
take_more false n x xs ys h = rw (add_comm 1 n, add-one n) (ap (λ zs. x ∷ zs) h)

-- with one item more in front, that alone is dropped if it passes, else one more
drop_more : {A : Type 0} (b : Bool) (n : ℕ) (x : A) (xs ys : List A) → drop (n + 1) xs ≡ ys →
    drop (cond (not b) (1 + n) 0 + 1) (x ∷ xs) ≡ cond b xs ys
drop_more true n x xs ys h = refl
drop_more false n x xs ys h = rw (add_comm 1 n, add-one (n + 1)) h

pub before_is : {A : Type 0} (test : A → Bool) (xs : List A) → before_first test xs ≡ before test xs
before_is test [] = refl
before_is test (x ∷ xs) = take_more (test x) (position_or_len test xs) x xs (before test xs) (before_is test xs)

pub behind_is : {A : Type 0} (test : A → Bool) (xs : List A) → after_first test xs ≡ behind test xs
behind_is test [] = refl
behind_is test (x ∷ xs) = drop_more (test x) (position_or_len test xs) x xs (behind test xs) (behind_is test xs)

-- ---- sections by their words

-- whether the first section is there, and is the second one
abbrev pub is_section : Option Section → Section → Bool
is_section None part = false
is_section (Some here) part = same (section_word here) (section_word part)

-- the word of each section means that section
section_back : (part : Section) → section_of (section_word part) ≡ Some part
unfolding section_of
section_back section.Name = refl
section_back part = refl

pub same_section : (p q : Section) → is_section (Some p) q ≡ true → p ≡ q
same_section p q h =
    same_Some p q
    (sym (section_back p) ∙ ap section_of (same_true (section_word p) (section_word q) h) ∙ section_back q)

-- a section that begins is no other
pub begun_elsewhere : (p q : Section) (seen : Seen) → is_section (Some p) q ≡ false →
    has_begun (with_section seen p) q ≡ has_begun seen q
begun_elsewhere section.Name section.Name seen e = absurd (cc)
begun_elsewhere section.Sense section.Sense seen e = absurd (cc)
begun_elsewhere section.Rows section.Rows seen e = absurd (cc)
begun_elsewhere section.Columns section.Columns seen e = absurd (cc)
begun_elsewhere section.RightSides section.RightSides seen e = absurd (cc)
begun_elsewhere section.Ranges section.Ranges seen e = absurd (cc)
begun_elsewhere section.Bounds section.Bounds seen e = absurd (cc)
begun_elsewhere p q seen e = refl

-- a line has the same fields in two sections that the test finds the same
fields_same : (style : Style) (p q : Section) (bytes : List ℕ) → is_section (Some p) q ≡ true →
    fields_in style p bytes ≡ fields_in style q bytes
fields_same style p q bytes h = ap (λ part. fields_in style part bytes) (same_section p q h)

-- ---- the cards so far

-- what was read of a text so far: the words of the headings NAME and OBJSENSE, if they came, and the data cards of each
-- section, in order
pub record SoFar : Type 0 where
  pub name_title : Option Fields
  pub sense_title : Option Fields
  pub senses : List Fields
  pub rows : List Fields
  pub columns : List Fields
  pub right_sides : List Fields
  pub ranges : List Fields
  pub bounds : List Fields

-- nothing was read so far: no heading and no card
abbrev pub nothing : SoFar
nothing =
    record {
      name_title = None;
      sense_title = None;
      senses = [];
      rows = [];
      columns = [];
      right_sides = [];
      ranges = [];
      bounds = [];
    }

-- the cards with this one at the end where the flag is true, else as they are
abbrev pub pushed : Bool → List Fields → Fields → List Fields
pushed true cards fields = cards ++ fields ∷ []
pushed false cards fields = cards

-- what was read so far, with one more data card of this section
abbrev pub with_card : Section → Fields → SoFar → SoFar
with_card part fields c =
    record c {
      senses = pushed (is_section (Some part) section.Sense) c.senses fields;
      rows = pushed (is_section (Some part) section.Rows) c.rows fields;
      columns = pushed (is_section (Some part) section.Columns) c.columns fields;
      right_sides = pushed (is_section (Some part) section.RightSides) c.right_sides fields;
      ranges = pushed (is_section (Some part) section.Ranges) c.ranges fields;
      bounds = pushed (is_section (Some part) section.Bounds) c.bounds fields;
    }

-- the first fields, or the second ones where the first are none
abbrev pub or_else : Option Fields → Option Fields → Option Fields
or_else None o = o
or_else (Some fields) o = Some fields

-- the heading that was read: where the flag is true and there was none, these words, else the old one
abbrev pub titled : Bool → Option Fields → Fields → Option Fields
titled true o fields = or_else o (Some fields)
titled false o fields = o

-- what was read so far, with the words of a heading of this section, which are kept for NAME and OBJSENSE
abbrev pub with_title : Section → Fields → SoFar → SoFar
with_title part fields c =
    record c {
      name_title = titled (is_section (Some part) section.Name) c.name_title fields;
      sense_title = titled (is_section (Some part) section.Sense) c.sense_title fields;
    }

-- ---- those to come

-- the lines of a section that are still to come: up to the next heading where it is here, as the first flag says; none
-- where it is over, as the second does; else those behind its heading
abbrev pub lines_by : Bool → Bool → Section → Lines → Lines
lines_by true seen part lines = before is_heading lines
lines_by false true part lines = []
lines_by false false part lines = before is_heading (behind (begins part) lines)

-- the fields of each of these lines as a data card of this section, without comments and blank lines
abbrev pub cards_of : Style → Section → Lines → List Fields
cards_of style part lines =
    map (λ l. fields_in style part (bytes_of l)) (filter (λ l. not (is_skipped (bytes_of l))) lines)

-- the data cards of a section that are still to come in these lines, by the section that is here and by whether the
-- other one has begun
unfoldable pub cards_to_come : Style → Option Section → Bool → Section → Lines → List Fields
cards_to_come style here seen part lines =
    cards_of style part (lines_by (is_section here part) seen part (before (begins section.End) lines))

-- the words of the section's heading among these lines; none where the flag says that it has begun, or where there is
-- no such heading
abbrev pub title_by : Bool → Section → Lines → Option Fields
title_by true part lines = None
title_by false part lines = option_map (λ l. word_fields (bytes_of l)) (find (begins part) lines)

-- the words of a section's heading that is still to come before ENDATA; none where the section has begun or has no
-- heading
unfoldable pub title_to_come : Bool → Section → Lines → Option Fields
title_to_come seen part lines = title_by seen part (before (begins section.End) lines)

-- the headings and data cards of a text in all: those so far, and behind them those still to come in these lines
abbrev pub whole : SoFar → Style → Option Section → Seen → Lines → SoFar
whole c style here seen lines =
    record {
      name_title = or_else c.name_title (title_to_come seen.name section.Name lines);
      sense_title = or_else c.sense_title (title_to_come seen.sense section.Sense lines);
      senses = c.senses ++ cards_to_come style here seen.sense section.Sense lines;
      rows = c.rows ++ cards_to_come style here seen.rows section.Rows lines;
      columns = c.columns ++ cards_to_come style here seen.columns section.Columns lines;
      right_sides = c.right_sides ++ cards_to_come style here seen.right_sides section.RightSides lines;
      ranges = c.ranges ++ cards_to_come style here seen.ranges section.Ranges lines;
      bounds = c.bounds ++ cards_to_come style here seen.bounds section.Bounds lines;
    }

-- ---- a line that is no heading

-- the line is no heading, and begins no section
pub record IsPlain (l : Line (List ℕ)) : Type 0 where
  pub heading : is_heading l ≡ false
  pub begins_none : (part : Section) → begins part l ≡ false

-- a line that is skipped or begins with a blank is no heading and begins no section
plain : (l : Line (List ℕ)) (s b : Bool) → is_skipped (bytes_of l) ≡ s → begins_with_blank (bytes_of l) ≡ b →
    not s && not b ≡ false → IsPlain l
plain l s b e f h =
    let g : is_heading l ≡ false = (λ i. not (e i) && not (f i)) ∙ h in
    record {
      heading = g;
      begins_none = λ part. ap (λ t. t && same (text_at 1 (word_fields (bytes_of l))) (section_word part)) g;
    }

pub skipped_plain : (l : Line (List ℕ)) → is_skipped (bytes_of l) ≡ true → IsPlain l
skipped_plain l h = plain l true (begins_with_blank (bytes_of l)) h refl refl

pub data_plain : (l : Line (List ℕ)) → is_skipped (bytes_of l) ≡ false → begins_with_blank (bytes_of l) ≡ true →
    IsPlain l
data_plain l h b = plain l false true h b refl

-- the cards with the fields of this line before them where the flag says that it counts, else as they are
abbrev on_line : Style → Section → Line (List ℕ) → Bool → List Fields → List Fields
on_line style part l counts cards = cond counts (fields_in style part (bytes_of l) ∷ cards) cards

-- a plain line is a card to come where its section is here, unless skipped
cards_plain : (style : Style) (part : Section) (at seen : Bool) (l : Line (List ℕ)) (lines : Lines) → IsPlain l →
    cards_of style part (lines_by at seen part (before (begins section.End) (l ∷ lines)))
    ≡ on_line style part l (at && not (is_skipped (bytes_of l)))
    (cards_of style part (lines_by at seen part (before (begins section.End) lines)))
cards_plain style part true seen l lines p =
    ap (λ b. cards_of style part (before is_heading (cond b [] (l ∷ before (begins section.End) lines))))
    (p.begins_none section.End)
    ∙ ap (λ b. cards_of style part (cond b [] (l ∷ before is_heading (before (begins section.End) lines)))) p.heading
    ∙ go (not (is_skipped (bytes_of l)))
  where
    rest : Lines
    rest = filter (λ l. not (is_skipped (bytes_of l))) (before is_heading (before (begins section.End) lines))

    go : (b : Bool) →
        map (λ l. fields_in style part (bytes_of l)) (cond b (l ∷ rest) rest)
        ≡ on_line style part l b (map (λ l. fields_in style part (bytes_of l)) rest)
    go true = refl
    go false = refl
cards_plain style part false true l lines p = refl
cards_plain style part false false l lines p =
    ap (λ b. cards_of style part
    (before is_heading (behind (begins part) (cond b [] (l ∷ before (begins section.End) lines)))))
    (p.begins_none section.End)
    ∙ ap (λ b. cards_of style part (before is_heading
    (cond b (before (begins section.End) lines) (behind (begins part) (before (begins section.End) lines)))))
    (p.begins_none part)

pub title_plain : (seen : Bool) (part : Section) (l : Line (List ℕ)) (lines : Lines) → IsPlain l →
    title_to_come seen part (l ∷ lines) ≡ title_to_come seen part lines
unfolding title_to_come
title_plain true part l lines p = refl
title_plain false part l lines p =
    ap (λ b. option_map (λ l. word_fields (bytes_of l))
    (find (begins part) (cond b [] (l ∷ before (begins section.End) lines)))) (p.begins_none section.End)
    ∙ ap (λ b. option_map (λ l. word_fields (bytes_of l))
    (cond b (Some l) (find (begins part) (before (begins section.End) lines)))) (p.begins_none part)

pub cards_skip : (style : Style) (here : Option Section) (seen : Bool)
    (part : Section) (l : Line (List ℕ)) (lines : Lines) →
    is_skipped (bytes_of l) ≡ true →
    cards_to_come style here seen part (l ∷ lines) ≡ cards_to_come style here seen part lines
unfolding cards_to_come
cards_skip style here seen part l lines h =
    cards_plain style part (is_section here part) seen l lines (skipped_plain l h)
    ∙ ap (λ b. on_line style part l b
    (cards_of style part (lines_by (is_section here part) seen part (before (begins section.End) lines))))
    (none (is_section here part) (is_skipped (bytes_of l)) h)
  where
    none : (at skipped : Bool) → skipped ≡ true → at && not skipped ≡ false
    none true skipped e = ap not e
    none false skipped e = refl

pub cards_data : (style : Style) (here : Section) (seen : Bool)
    (part : Section) (l : Line (List ℕ)) (lines : Lines) (cards : List Fields) →
    is_skipped (bytes_of l) ≡ false → begins_with_blank (bytes_of l) ≡ true →
    cards ++ cards_to_come style (Some here) seen part (l ∷ lines) ≡ pushed (is_section (Some here) part) cards
    (fields_in style here (bytes_of l)) ++ cards_to_come style (Some here) seen part lines
unfolding cards_to_come
cards_data style here seen part l lines cards h b =
    ap (λ more. cards ++ more)
    (cards_plain style part (is_section (Some here) part) seen l lines (data_plain l h b)
    ∙ ap (λ c. on_line style part l (is_section (Some here) part && not c)
    (cards_of style part (lines_by (is_section (Some here) part) seen part (before (begins section.End) lines)))) h)
    ∙ go (is_section (Some here) part) (fields_same style here part (bytes_of l))
    (cards_of style part (lines_by (is_section (Some here) part) seen part (before (begins section.End) lines)))
  where
    go : (at : Bool) → (at ≡ true → fields_in style here (bytes_of l) ≡ fields_in style part (bytes_of l)) →
        (more : List Fields) →
        cards ++ on_line style part l (at && true) more ≡ pushed at cards (fields_in style here (bytes_of l)) ++ more
    go true f more =
        ap (λ fields. cards ++ fields ∷ more) (sym (f refl))
        ∙ sym (append_assoc cards (fields_in style here (bytes_of l) ∷ []) more)
    go false f more = refl
