-- What a text of a model is: one model, or one line with one fault. Each line is a step from what was read before it.
use Rattle.std.specs.Prelude.{ℕ, ◌+◌, ◌≡◌, ◌⊎◌, ◌&&◌, Bool, true, false, not, Option}
use Rattle.std.specs.Prelude.{Some, None, is_some, is_none, Ok, Err, List, [], ◌∷◌}
use Rattle.spec_text.specs.declared.line.Line.{Line}
use Rattle.spec_text.specs.declared.line.Line.TheVariants.{Text, Long, End, Over}
use Rattle.spec_model.specs.declared.parts.Sense.{Sense}
use Rattle.spec_model.specs.declared.parts.Sense.TheVariants.{Min}
use Rattle.spec_model.specs.declared.parts.SizeLimits.{SizeLimits}
use Rattle.spec_model.specs.Model.{Model, Name}
use Rattle.spec_model.specs.Kept.{is_model_name, usual_limits}
use Rattle.spec_mps.specs.declared.card.Card.{Card}
use Rattle.spec_mps.specs.declared.card.Card.TheVariants as card
use Rattle.spec_mps.specs.declared.fault.Code.{Code}
use Rattle.spec_mps.specs.declared.fault.Code.TheVariants as code
use Rattle.spec_mps.specs.declared.style.Style.{Style}
use Rattle.spec_mps.specs.declared.style.Style.TheVariants.{Free, Fixed}
use Rattle.spec_mps.specs.declared.section.Section.{Section}
use Rattle.spec_mps.specs.declared.section.Section.TheVariants as section
use Rattle.spec_mps.specs.declared.section.Seen.{Seen}
use Rattle.spec_mps.specs.Fields.{Fields, CardReading, Is, Misplaced, free_fields, fixed_fields, text_at}
use Rattle.spec_mps.specs.Checks.{Check, ◌>>=◌, must, need}
use Rattle.spec_mps.specs.Shapes.{section_of, sense_of, shaped}
use Rattle.spec_mps.specs.Reader.{State, start, whole_columns, rows_card, columns_card}
use Rattle.spec_mps.specs.Sides.{rhs_card, ranges_card}
use Rattle.spec_mps.specs.Bounds.{bounds_card}

-- ---- OBJSENSE: the sense may stand once, under it or beside it

-- the state with the sense that a word says; a fault where the word says none, or the state has one already
unfoldable pub take_sense : State → List ℕ → Check State
take_sense s text = do
  sense ← need (sense_of text) code.CardShape
  _ ← must (is_none s.sense) code.CardShape
  Ok (record s { sense = Some sense })

-- the state with the sense that the one word of a card of OBJSENSE says; or the code of its fault, another shape, an
-- unknown word or a second sense
unfoldable pub sense_card : Style → State → Fields → Check State
sense_card style s fields = shaped style section.Sense fields >>= λ texts. take_sense s (text_at 1 fields)

-- ---- sections: each at most once, in their order

-- whether a section has begun; ENDATA never has
abbrev pub has_begun : Seen → Section → Bool
has_begun seen section.Name = seen.name
has_begun seen section.Sense = seen.sense
has_begun seen section.Rows = seen.rows
has_begun seen section.Columns = seen.columns
has_begun seen section.RightSides = seen.right_sides
has_begun seen section.Ranges = seen.ranges
has_begun seen section.Bounds = seen.bounds
has_begun seen section.End = false

-- the sections that have begun, with this one more; ENDATA adds nothing
abbrev pub with_section : Seen → Section → Seen
with_section seen section.Name = record seen { name = true }
with_section seen section.Sense = record seen { sense = true }
with_section seen section.Rows = record seen { rows = true }
with_section seen section.Columns = record seen { columns = true }
with_section seen section.RightSides = record seen { right_sides = true }
with_section seen section.Ranges = record seen { ranges = true }
with_section seen section.Bounds = record seen { bounds = true }
with_section seen section.End = seen

-- whether a section may begin once these have begun: NAME and OBJSENSE before ROWS, COLUMNS after it, and RHS, RANGES,
-- BOUNDS and ENDATA after COLUMNS. For ROWS it always says yes. It does not ask whether the section itself has begun.
abbrev pub may_follow : Seen → Section → Bool
may_follow seen section.Name = not seen.rows
may_follow seen section.Sense = not seen.rows
may_follow seen section.Rows = true
may_follow seen section.Columns = seen.rows
may_follow seen section.RightSides = seen.columns
may_follow seen section.Ranges = seen.columns
may_follow seen section.Bounds = seen.columns
may_follow seen section.End = seen.columns

-- the state as a section begins: it is the one of the next cards and, unless it is ENDATA, is noted as begun; the open
-- column joins the whole ones, no target has a number, and there is no set
abbrev pub begun : State → Section → State
begun s part =
    record s {
      part = Some part;
      seen = with_section s.seen part;
      columns = whole_columns s;
      column = None;
      paired = [];
      set = None;
    }

-- the state after the word beside OBJSENSE: with the sense that it says, or a fault; unchanged where there is no word
abbrev pub sense_beside : State → List ℕ → Check State
sense_beside s [] = Ok s
sense_beside s (b ∷ bs) = take_sense s (b ∷ bs)

-- The state after a section's heading with this second word, which may be empty, or the code of its fault. NAME takes a
-- valid name or none, and OBJSENSE a sense or none; COLUMNS asks for an objective; other sections pass over the word.
abbrev pub headed : State → Section → List ℕ → Check State
headed s section.Name word = must (is_model_name word) code.Name >>= λ _. Ok (record s { name = word })
headed s section.Sense word = sense_beside s word
headed s section.Columns word = must (is_some s.objective) code.NoObjective >>= λ _. Ok s
headed s part word = Ok s

-- ---- one line

-- what a line leads to: a further state, or the end with a model
pub data Progress : Type 0 where
  More : (state : State) → Progress
  Done : (model : Model) → Progress

-- what a line leads to: a further state or the model, or the code of the line's fault
abbrev pub Outcome : Type 0
Outcome = Check Progress

-- a checked state as an outcome: the reader goes on from it; or the code of the fault that the check found
abbrev pub more : Check State → Outcome
more check = check >>= λ s. Ok (More s)

-- the sense that was read, or to minimize where the text says none
abbrev pub sense_or_min : Option Sense → Sense
sense_or_min None = Min
sense_or_min (Some sense) = sense

-- the model that was read, with this objective
unfoldable pub model_by : State → Name → Model
model_by s objective =
    record {
      name = s.name;
      sense = sense_or_min s.sense;
      objective = objective;
      offset = s.offset;
      rows = s.rows;
      columns = whole_columns s;
    }

-- the outcome at ENDATA: the model that was read; a fault where no objective was read
unfoldable pub finished : State → Outcome
finished s = need s.objective code.NoObjective >>= λ objective. Ok (Done (model_by s objective))

-- the outcome of a section's heading with this second word: ENDATA ends the text with its model, and each other section
-- begins; or the code of the heading's fault
abbrev pub begin : State → Section → List ℕ → Outcome
begin s section.End word = finished s
begin s part word = more (headed (begun s part) part word)

-- the outcome of a section's heading; a fault where the section is unknown, was begun before, or is out of order
unfoldable pub section_card : State → Fields → Outcome
section_card s fields = do
  part ← need (section_of (text_at 1 fields)) code.UnknownSection
  _ ← must (may_follow s.seen part && not (has_begun s.seen part)) code.SectionOrder
  begin s part (text_at 2 fields)

-- The state after a data card of the section that was begun, or the code of its fault. Under no section, NAME or ENDATA
-- a data card is a fault.
abbrev pub data_card : SizeLimits → Style → Option Section → State → Fields → Check State
data_card limits style (Some section.Sense) s fields = sense_card style s fields
data_card limits style (Some section.Rows) s fields = rows_card limits style s fields
data_card limits style (Some section.Columns) s fields = columns_card limits style s fields
data_card limits style (Some section.RightSides) s fields = rhs_card style s fields
data_card limits style (Some section.Ranges) s fields = ranges_card style s fields
data_card limits style (Some section.Bounds) s fields = bounds_card style s fields
data_card limits style part s fields = Err code.CardShape

-- the outcome of a card: a skipped one changes nothing, a heading begins a section or ends the text, and a data card is
-- taken; or the code of the card's fault
abbrev pub on_card : SizeLimits → Style → State → Card Fields → Outcome
on_card limits style s card.Skip = Ok (More s)
on_card limits style s (card.Section fields) = section_card s fields
on_card limits style s (card.Given fields) = more (data_card limits style s.part s fields)

-- the outcome of a line by what it is read as: that of its card, or a fault where a byte is misplaced
abbrev pub on_reading : SizeLimits → Style → State → CardReading → Outcome
on_reading limits style s (Is c) = on_card limits style s c
on_reading limits style s (Misplaced column) = Err code.CardShape

-- how a line is read by the form: by its words in free form, and under OBJSENSE in both; else by its columns
abbrev pub reading_of : Style → Option Section → List ℕ → CardReading
reading_of Free part bytes = free_fields bytes
reading_of Fixed (Some section.Sense) bytes = free_fields bytes
reading_of Fixed part bytes = fixed_fields bytes

-- what a line of a model's text leads to from a state: a further state or the model, or the code of the line's fault. A
-- line that is too long is past a limit, and the end of the input cuts the text off.
unfoldable pub step : SizeLimits → Style → State → Line (List ℕ) → Outcome
step limits style s (Text bytes) = on_reading limits style s (reading_of style s.part bytes)
step limits style s (Long len) = Err code.Limit
step limits style s End = Err code.Cut
step limits style s Over = Err code.Cut

-- ---- a whole text

-- what a whole text is: the model that it spells, or the first wrong line with its fault
pub data Verdict : Type 0 where
  Spelled : (model : Model) → Verdict
  Refused : (line : ℕ) → (code : Code) → Verdict

-- the verdict after the outcome of line n: that of `next` on a further state, or the model, or line n with its fault
abbrev pub settled : ℕ → (State → Verdict) → Outcome → Verdict
settled n next (Ok (More s)) = next s
settled n next (Ok (Done m)) = Spelled m
settled n next (Err code) = Refused n code

-- the verdict on lines, of which the first is line n, from a state. Where they end before ENDATA, the line that would
-- come next is refused as cut off.
abbrev pub judge : SizeLimits → Style → State → ℕ → List (Line (List ℕ)) → Verdict
judge limits style s n [] = Refused n code.Cut
judge limits style s n (line ∷ lines) = settled n (λ t. judge limits style t (n + 1) lines) (step limits style s line)

-- the lines up to ENDATA, read in this form from the first on, spell this model without a fault within these limits
abbrev pub SpellsWithin : SizeLimits → Style → List (Line (List ℕ)) → Model → Type 0
SpellsWithin limits style lines m = judge limits style start 1 lines ≡ Spelled m

-- the lines spell no model within these limits: line n, counted from 1, is the first that is wrong, with this fault
abbrev pub RefusesWithin : SizeLimits → Style → List (Line (List ℕ)) → ℕ → Code → Type 0
RefusesWithin limits style lines n fault = judge limits style start 1 lines ≡ Refused n fault

-- the lines up to ENDATA, read in this form, spell this model within the usual limits, 256 rows and 512 columns
abbrev pub Spells : Style → List (Line (List ℕ)) → Model → Type 0
Spells = SpellsWithin usual_limits

-- the lines spell no model within the usual limits: the line of this number, counted from 1, is the first that is
-- wrong, with this fault
abbrev pub Refuses : Style → List (Line (List ℕ)) → ℕ → Code → Type 0
Refuses = RefusesWithin usual_limits

-- The lines spell a model or are refused within these limits, and never both. There is no second model that they spell,
-- and no second line or fault at which they are refused.
pub record IsJudged (limits : SizeLimits) (style : Style) (lines : List (Line (List ℕ))) : Type 0 where
  pub some : ((m : Model) × SpellsWithin limits style lines m)
      ⊎ ((n : ℕ) × (fault : Code) × RefusesWithin limits style lines n fault)
  pub one_model : (m o : Model) → SpellsWithin limits style lines m → SpellsWithin limits style lines o → m ≡ o
  pub not_both : (m : Model) (n : ℕ) (fault : Code) → SpellsWithin limits style lines m →
      ¬ (RefusesWithin limits style lines n fault)
  pub one_line : (n k : ℕ) (fault other : Code) → RefusesWithin limits style lines n fault →
      RefusesWithin limits style lines k other → n ≡ k
  pub one_fault : (n k : ℕ) (fault other : Code) → RefusesWithin limits style lines n fault →
      RefusesWithin limits style lines k other → fault ≡ other
