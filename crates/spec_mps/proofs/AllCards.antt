-- All cards of a text are those read so far and those still to come, line by line.
--
-- `whole_skip`: a comment or a blank line leaves all cards of the text as they are.
-- `whole_data`: reading a data card of the current section moves it from the cards that are to come to the cards that
--   were read.
-- `whole_heading`: reading the heading of a section that has not begun, other than ENDATA, moves it from the headings
--   to come to those that were read, and makes its section the current one.
-- `whole_end`: at ENDATA all cards of the text are those that were read.
-- `whole_is`: before the first line all cards to come are the cards of the whole text.
use Rattle.std.proofs.Common.{◌≡◌, ℕ, Bool, true, false, Option, Some, None, List}
use Rattle.std.proofs.Common.{◌∷◌, ◌++◌, sym, ap, ◌∙◌, subst, option_map}
use Rattle.std.specs.List.{find}
use Rattle.spec_text.specs.declared.line.Line.{Line}
use Rattle.spec_mps.specs.declared.style.Style.{Style}
use Rattle.spec_mps.specs.declared.section.Section.{Section}
use Rattle.spec_mps.specs.declared.section.Section.TheVariants as section
use Rattle.spec_mps.specs.declared.section.Seen.{Seen}
use Rattle.spec_mps.specs.Cards.{is_skipped, begins_with_blank}
use Rattle.spec_mps.specs.Fields.{Fields, word_fields}
use Rattle.spec_mps.specs.Reader.{start}
use Rattle.spec_mps.specs.Steps.{has_begun, with_section}
use Rattle.spec_mps.specs.TextCards.{Lines, bytes_of, is_heading, begins, lines_up_to_end}
use Rattle.spec_mps.specs.TextCards.{lines_in, fields_in, cards_in, title_of}
use Rattle.spec_mps.proofs.CardsSoFar.{before, behind, before_is, behind_is, is_section, same_section, SoFar}
use Rattle.spec_mps.proofs.CardsSoFar.{nothing}
use Rattle.spec_mps.proofs.CardsSoFar.{with_card, or_else, with_title, cards_to_come, title_to_come, cards_of}
use Rattle.spec_mps.proofs.CardsSoFar.{whole, skipped_plain, data_plain, title_plain, cards_skip, cards_data}
use Rattle.spec_mps.proofs.Headings.{IsHeading, cards_begin, title_begin, cards_end, title_end}
use Rattle.spec_mps.proofs.Order.{IsOrdered, one_more}

-- ---- one line more

pub whole_skip : (c : SoFar) (style : Style) (here : Option Section) (seen : Seen) (l : Line (List ℕ)) (lines : Lines) →
    is_skipped (bytes_of l) ≡ true → whole c style here seen lines ≡ whole c style here seen (l ∷ lines)
whole_skip c style here seen l lines h =
    let card = λ (b : Bool) (q : Section). sym (cards_skip style here b q l lines h) in
    let title = λ (b : Bool) (q : Section). sym (title_plain b q l lines (skipped_plain l h)) in
    λ i.
    record {
      name_title = or_else c.name_title (title seen.name section.Name i);
      sense_title = or_else c.sense_title (title seen.sense section.Sense i);
      senses = c.senses ++ card seen.sense section.Sense i;
      rows = c.rows ++ card seen.rows section.Rows i;
      columns = c.columns ++ card seen.columns section.Columns i;
      right_sides = c.right_sides ++ card seen.right_sides section.RightSides i;
      ranges = c.ranges ++ card seen.ranges section.Ranges i;
      bounds = c.bounds ++ card seen.bounds section.Bounds i;
    }

pub whole_data : (c : SoFar) (style : Style) (here : Section) (seen : Seen) (l : Line (List ℕ)) (lines : Lines) →
    is_skipped (bytes_of l) ≡ false → begins_with_blank (bytes_of l) ≡ true →
    whole (with_card here (fields_in style here (bytes_of l)) c) style (Some here) seen lines
    ≡ whole c style (Some here) seen (l ∷ lines)
whole_data c style here seen l lines h b =
    let card =
    λ (begun : Bool) (q : Section) (cards : List Fields). sym (cards_data style here begun q l lines cards h b) in
    let title = λ (begun : Bool) (q : Section). sym (title_plain begun q l lines (data_plain l h b)) in
    λ i.
    record {
      name_title = or_else c.name_title (title seen.name section.Name i);
      sense_title = or_else c.sense_title (title seen.sense section.Sense i);
      senses = card seen.sense section.Sense c.senses i;
      rows = card seen.rows section.Rows c.rows i;
      columns = card seen.columns section.Columns c.columns i;
      right_sides = card seen.right_sides section.RightSides c.right_sides i;
      ranges = card seen.ranges section.Ranges c.ranges i;
      bounds = card seen.bounds section.Bounds c.bounds i;
    }

-- a section has not begun where one that the test finds the same has not begun
is_new : (part q : Section) (seen : Seen) → has_begun seen part ≡ false → is_section (Some part) q ≡ true →
    has_begun seen q ≡ false
is_new part q seen h e = subst (λ p. has_begun seen p ≡ false) (same_section part q e) h

pub whole_heading : (c : SoFar) (style : Style) (here : Option Section)
    (part : Section) (seen : Seen) (l : Line (List ℕ)) (lines : Lines) →
    IsHeading l part → is_section (Some part) section.End ≡ false → has_begun seen part ≡ false → IsOrdered here seen →
    whole (with_title part (word_fields (bytes_of l)) c) style (Some part) (with_section seen part) lines
    ≡ whole c style here seen (l ∷ lines)
whole_heading c style here part seen l lines h e new o =
    let n = λ (q : Section). is_new part q seen new in
    ap (λ later. whole (with_title part (word_fields (bytes_of l)) c) style (Some part) later lines)
    (one_more seen part)
    ∙ λ i.
    record {
      name_title = sym (title_begin seen.name part section.Name l lines c.name_title h e (n section.Name)) i;
      sense_title = sym (title_begin seen.sense part section.Sense l lines c.sense_title h e (n section.Sense)) i;
      senses =
          c.senses
          ++ sym (cards_begin style here seen.sense part section.Sense l lines h e o.told.senses (n section.Sense)) i;
      rows =
          c.rows ++ sym (cards_begin style here seen.rows part section.Rows l lines h e o.told.rows (n section.Rows)) i;
      columns =
          c.columns
          ++ sym (cards_begin style here seen.columns part
          section.Columns l lines h e o.told.columns (n section.Columns)) i;
      right_sides =
          c.right_sides ++ sym (cards_begin style here seen.right_sides part
          section.RightSides l lines h e o.told.right_sides (n section.RightSides)) i;
      ranges =
          c.ranges
          ++ sym (cards_begin style here seen.ranges part
          section.Ranges l lines h e o.told.ranges (n section.Ranges)) i;
      bounds =
          c.bounds
          ++ sym (cards_begin style here seen.bounds part
          section.Bounds l lines h e o.told.bounds (n section.Bounds)) i;
    }

pub whole_end : (c : SoFar) (style : Style) (here : Option Section) (seen : Seen) (l : Line (List ℕ)) (lines : Lines) →
    IsHeading l section.End → c ≡ whole c style here seen (l ∷ lines)
whole_end c style here seen l lines h =
    λ i.
    record {
      name_title = sym (title_end seen.name section.Name l lines c.name_title h) i;
      sense_title = sym (title_end seen.sense section.Sense l lines c.sense_title h) i;
      senses = sym (cards_end style here seen.sense section.Sense l lines c.senses h) i;
      rows = sym (cards_end style here seen.rows section.Rows l lines c.rows h) i;
      columns = sym (cards_end style here seen.columns section.Columns l lines c.columns h) i;
      right_sides = sym (cards_end style here seen.right_sides section.RightSides l lines c.right_sides h) i;
      ranges = sym (cards_end style here seen.ranges section.Ranges l lines c.ranges h) i;
      bounds = sym (cards_end style here seen.bounds section.Bounds l lines c.bounds h) i;
    }

-- ---- the cards of a whole text

-- the headings and the data cards of a whole text, section by section, as the definitions of a text's meaning have them
abbrev pub all_of : Style → Lines → SoFar
all_of style lines =
    record {
      name_title = title_of section.Name lines;
      sense_title = title_of section.Sense lines;
      senses = cards_in style section.Sense lines;
      rows = cards_in style section.Rows lines;
      columns = cards_in style section.Columns lines;
      right_sides = cards_in style section.RightSides lines;
      ranges = cards_in style section.Ranges lines;
      bounds = cards_in style section.Bounds lines;
    }

-- before all lines, the cards of a section to come are all its cards
all_cards : (style : Style) (part : Section) (lines : Lines) →
    cards_to_come style None false part lines ≡ cards_in style part lines
unfolding cards_to_come cards_in lines_in lines_up_to_end
all_cards style part lines =
    ap (λ ls. cards_of style part ls)
    (ap (λ ls. before is_heading (behind (begins part) ls)) (sym (before_is (begins section.End) lines))
    ∙ ap (λ ls. before is_heading ls) (sym (behind_is (begins part) (lines_up_to_end lines)))
    ∙ sym (before_is is_heading _))

-- before all lines, the title of a section to come is its title
all_titles : (part : Section) (lines : Lines) → title_to_come false part lines ≡ title_of part lines
unfolding title_to_come title_of lines_up_to_end
all_titles part lines =
    ap (λ ls. option_map (λ l. word_fields (bytes_of l)) (find (begins part) ls))
    (sym (before_is (begins section.End) lines))

pub whole_is : (style : Style) (lines : Lines) → whole nothing style start.part start.seen lines ≡ all_of style lines
whole_is style lines =
    λ i.
    record {
      name_title = all_titles section.Name lines i;
      sense_title = all_titles section.Sense lines i;
      senses = all_cards style section.Sense lines i;
      rows = all_cards style section.Rows lines i;
      columns = all_cards style section.Columns lines i;
      right_sides = all_cards style section.RightSides lines i;
      ranges = all_cards style section.Ranges lines i;
      bounds = all_cards style section.Bounds lines i;
    }
