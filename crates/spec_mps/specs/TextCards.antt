-- What stands in a text, section by section, up to ENDATA.
use Rattle.std.specs.Prelude.{ℕ, ◌&&◌, Bool, not, Option, option_map, List, [], map, codes}
use Rattle.std.specs.List.{filter, find, before_first, after_first}
use Rattle.spec_text.specs.Words.{same}
use Rattle.spec_text.specs.declared.line.Line.{Line}
use Rattle.spec_text.specs.declared.line.Line.TheVariants.{Text, Long, End, Over}
use Rattle.spec_mps.specs.declared.style.Style.{Style}
use Rattle.spec_mps.specs.declared.style.Style.TheVariants.{Free, Fixed}
use Rattle.spec_mps.specs.declared.section.Section.{Section}
use Rattle.spec_mps.specs.declared.section.Section.TheVariants as section
use Rattle.spec_mps.specs.Cards.{is_skipped, begins_with_blank}
use Rattle.spec_mps.specs.Fields.{Fields, word_fields, column_fields, text_at}

-- a text, as the list of its lines
abbrev pub Lines : Type 0
Lines = List (Line (List ℕ))

-- the bytes of a line; none for one that is too long, and for the end
abbrev pub bytes_of : Line (List ℕ) → List ℕ
bytes_of (Text bytes) = bytes
bytes_of (Long length) = []
bytes_of End = []
bytes_of Over = []

-- the word that begins a section
abbrev pub section_word : Section → List ℕ
section_word section.Name = codes "NAME"
section_word section.Sense = codes "OBJSENSE"
section_word section.Rows = codes "ROWS"
section_word section.Columns = codes "COLUMNS"
section_word section.RightSides = codes "RHS"
section_word section.Ranges = codes "RANGES"
section_word section.Bounds = codes "BOUNDS"
section_word section.End = codes "ENDATA"

-- whether a line is the heading of a section: no comment, not blank, and with a byte other than a blank in column 1
abbrev pub is_heading : Line (List ℕ) → Bool
is_heading line = not (is_skipped (bytes_of line)) && not (begins_with_blank (bytes_of line))

-- whether a line begins this section
abbrev pub begins : Section → Line (List ℕ) → Bool
begins part line = is_heading line && same (text_at 1 (word_fields (bytes_of line))) (section_word part)

-- the lines of a text before the heading ENDATA; all lines where there is none
unfoldable pub lines_up_to_end : Lines → Lines
lines_up_to_end lines = before_first (begins section.End) lines

-- the lines of a section: those between its heading and the next heading, before ENDATA; none where it has no heading
unfoldable pub lines_in : Section → Lines → Lines
lines_in part lines = before_first is_heading (after_first (begins part) (lines_up_to_end lines))

-- the fields of a data card of a section: its words in free form, and under OBJSENSE in both; else by their columns
abbrev pub fields_in : Style → Section → List ℕ → Fields
fields_in Free part bytes = word_fields bytes
fields_in Fixed section.Sense bytes = word_fields bytes
fields_in Fixed part bytes = column_fields bytes

-- the fields of each data card of a section, in order, without comments and blank lines
unfoldable pub cards_in : Style → Section → Lines → List Fields
cards_in style part lines =
    map (λ line. fields_in style part (bytes_of line))
    (filter (λ line. not (is_skipped (bytes_of line))) (lines_in part lines))

-- the words of a section's heading, as fields from 1 on, the section's own word first; none where the section has no
-- heading before ENDATA
unfoldable pub title_of : Section → Lines → Option Fields
title_of part lines = option_map (λ line. word_fields (bytes_of line)) (find (begins part) (lines_up_to_end lines))
