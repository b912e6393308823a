-- The order of the sections, and what a line does.
--
-- `start_ordered`: before the first line the sections are in order.
-- `one_more`: the sections that have begun are, after one more, those from before and that one.
-- `not_both`: a test that is both true and false gives anything.
-- `begun_ordered`: sections in order stay so where a section other than ENDATA begins that may follow and has not
--   begun before.
-- `step_did`: a line that the reader takes is skipped, is a data card of the section here, or is a heading.
use Rattle.std.proofs.Common.{◌≡◌, ℕ, Bool, true, false, ◌||◌, cond, Option, Some, None, Ok, List, refl, ◌∙◌, subst}
use Rattle.std.proofs.lemmas.Bool.{or_left}
use Rattle.spec_text.specs.declared.line.Line.{Line}
use Rattle.spec_text.specs.declared.line.Line.TheVariants as line
use Rattle.spec_model.specs.declared.parts.SizeLimits.{SizeLimits}
use Rattle.spec_mps.specs.declared.card.Card.TheVariants as card
use Rattle.spec_mps.specs.declared.style.Style.{Style}
use Rattle.spec_mps.specs.declared.style.Style.TheVariants.{Free, Fixed}
use Rattle.spec_mps.specs.declared.section.Section.{Section}
use Rattle.spec_mps.specs.declared.section.Section.TheVariants as section
use Rattle.spec_mps.specs.declared.section.Seen.{Seen}
use Rattle.spec_mps.specs.Cards.{is_skipped, begins_with_blank}
use Rattle.spec_mps.specs.Fields.{Fields, CardReading, Is, word_fields, column_fields}
use Rattle.spec_mps.specs.Fields.{misplaced_from, placed, free_fields, fixed_fields}
use Rattle.spec_mps.specs.Reader.{State, start}
use Rattle.spec_mps.specs.Steps.{has_begun, with_section, may_follow, Progress, More, more}
use Rattle.spec_mps.specs.Steps.{section_card, data_card, on_reading, reading_of, step}
use Rattle.spec_mps.proofs.CheckSteps.{step_ok, same_ok}
use Rattle.spec_mps.specs.TextCards.{bytes_of, fields_in}
use Rattle.spec_mps.proofs.CardsSoFar.{is_section}

-- ---- the order of sections

-- none of RHS, RANGES and BOUNDS has begun
pub record HasNoEnds (seen : Seen) : Type 0 where
  pub right_sides : seen.right_sides ≡ false
  pub ranges : seen.ranges ≡ false
  pub bounds : seen.bounds ≡ false

-- the section that is here, if it has data cards, has begun
pub record IsTold (here : Option Section) (seen : Seen) : Type 0 where
  pub senses : is_section here section.Sense ≡ true → seen.sense ≡ true
  pub rows : is_section here section.Rows ≡ true → seen.rows ≡ true
  pub columns : is_section here section.Columns ≡ true → seen.columns ≡ true
  pub right_sides : is_section here section.RightSides ≡ true → seen.right_sides ≡ true
  pub ranges : is_section here section.Ranges ≡ true → seen.ranges ≡ true
  pub bounds : is_section here section.Bounds ≡ true → seen.bounds ≡ true

-- the sections that have begun, and the one that is here, are in order: no COLUMNS without ROWS, and no RHS, RANGES or
-- BOUNDS without COLUMNS or while COLUMNS is here
pub record IsOrdered (here : Option Section) (seen : Seen) : Type 0 where
  pub told : IsTold here seen
  pub columns_later : seen.rows ≡ false → seen.columns ≡ false
  pub ends_later : seen.columns ≡ false → HasNoEnds seen
  pub at_rows : is_section here section.Rows ≡ true → seen.columns ≡ false
  pub at_columns : is_section here section.Columns ≡ true → HasNoEnds seen

pub start_ordered : IsOrdered start.part start.seen
start_ordered =
    record {
      told =
          record {
            senses = λ h. h;
            rows = λ h. h;
            columns = λ h. h;
            right_sides = λ h. h;
            ranges = λ h. h;
            bounds = λ h. h;
          };
      columns_later = λ h. refl;
      ends_later = λ h. record { right_sides = refl; ranges = refl; bounds = refl };
      at_rows = λ h. refl;
      at_columns = λ h. record { right_sides = refl; ranges = refl; bounds = refl };
    }

-- the sections that have begun, and this one more
abbrev pub with_one : Seen → Section → Seen
with_one seen part =
    record {
      name = is_section (Some part) section.Name || seen.name;
      sense = is_section (Some part) section.Sense || seen.sense;
      rows = is_section (Some part) section.Rows || seen.rows;
      columns = is_section (Some part) section.Columns || seen.columns;
      right_sides = is_section (Some part) section.RightSides || seen.right_sides;
      ranges = is_section (Some part) section.Ranges || seen.ranges;
      bounds = is_section (Some part) section.Bounds || seen.bounds;
    }

pub one_more : (seen : Seen) (part : Section) → with_section seen part ≡ with_one seen part
one_more seen section.Name = refl
one_more seen section.Sense = refl
one_more seen section.Rows = refl
one_more seen section.Columns = refl
one_more seen section.RightSides = refl
one_more seen section.Ranges = refl
one_more seen section.Bounds = refl
one_more seen section.End = refl

pub not_both : (b : Bool) {A : Type 0} → b ≡ true → b ≡ false → A
not_both true h k = absurd (cc)
not_both false h k = absurd (cc)

-- once a section has begun, the section that is here has begun
begun_told : (part : Section) (seen : Seen) → IsTold (Some part) (with_one seen part)
begun_told part seen =
    record {
      senses = or_left _ seen.sense;
      rows = or_left _ seen.rows;
      columns = or_left _ seen.columns;
      right_sides = or_left _ seen.right_sides;
      ranges = or_left _ seen.ranges;
      bounds = or_left _ seen.bounds;
    }

-- with the same marks, RHS, RANGES and BOUNDS have not begun either
ends_as : (seen later : Seen) → HasNoEnds seen → later.right_sides ≡ seen.right_sides → later.ranges ≡ seen.ranges →
    later.bounds ≡ seen.bounds → HasNoEnds later
ends_as seen later h a b c = record { right_sides = a ∙ h.right_sides; ranges = b ∙ h.ranges; bounds = c ∙ h.bounds }

pub begun_ordered : (here : Option Section) (part : Section) (seen : Seen) → may_follow seen part ≡ true →
    has_begun seen part ≡ false → is_section (Some part) section.End ≡ false → IsOrdered here seen →
    IsOrdered (Some part) (with_section seen part)
begun_ordered here section.Name seen may new e o =
    record {
      told = begun_told section.Name seen;
      columns_later = o.columns_later;
      ends_later = λ h. ends_as seen _ (o.ends_later h) refl refl refl;
      at_rows = λ h. absurd (cc);
      at_columns = λ h. absurd (cc);
    }
begun_ordered here section.Sense seen may new e o =
    record {
      told = begun_told section.Sense seen;
      columns_later = o.columns_later;
      ends_later = λ h. ends_as seen _ (o.ends_later h) refl refl refl;
      at_rows = λ h. absurd (cc);
      at_columns = λ h. absurd (cc);
    }
begun_ordered here section.Rows seen may new e o =
    record {
      told = begun_told section.Rows seen;
      columns_later = λ h. absurd (cc);
      ends_later = λ h. ends_as seen _ (o.ends_later h) refl refl refl;
      at_rows = λ h. o.columns_later new;
      at_columns = λ h. absurd (cc);
    }
begun_ordered here section.Columns seen may new e o =
    record {
      told = begun_told section.Columns seen;
      columns_later = λ h. not_both seen.rows may h;
      ends_later = λ h. absurd (cc);
      at_rows = λ h. absurd (cc);
      at_columns = λ h. ends_as seen _ (o.ends_later new) refl refl refl;
    }
begun_ordered here section.RightSides seen may new e o =
    record {
      told = begun_told section.RightSides seen;
      columns_later = o.columns_later;
      ends_later = λ h. not_both seen.columns may h;
      at_rows = λ h. absurd (cc);
      at_columns = λ h. absurd (cc);
    }
begun_ordered here section.Ranges seen may new e o =
    record {
      told = begun_told section.Ranges seen;
      columns_later = o.columns_later;
      ends_later = λ h. not_both seen.columns may h;
      at_rows = λ h. absurd (cc);
      at_columns = λ h. absurd (cc);
    }
begun_ordered here section.Bounds seen may new e o =
    record {
      told = begun_told section.Bounds seen;
      columns_later = o.columns_later;
      ends_later = λ h. not_both seen.columns may h;
      at_rows = λ h. absurd (cc);
      at_columns = λ h. absurd (cc);
    }
begun_ordered here section.End seen may new e o = absurd (cc)

-- ---- what a line did

-- the line was read as a data card of the section that is here, which leads from s to the next state
pub record DataDid (limits : SizeLimits) (style : Style) (s : State) (bytes : List ℕ) (p : Progress) : Type 0 where
  pub part : Section
  pub next : State
  pub here : s.part ≡ Some part
  pub did : data_card limits style (Some part) s (fields_in style part bytes) ≡ Ok next
  pub goes : More next ≡ p

-- what a line did from s: it was skipped, was a data card of the section that is here, or was a heading
pub data LineDid (limits : SizeLimits) (style : Style) (s : State) (bytes : List ℕ) (p : Progress) : Type 0 where
  Skipped : (skipped : is_skipped bytes ≡ true) → (same : More s ≡ p) → LineDid limits style s bytes p
  Data : (kept : is_skipped bytes ≡ false) → (blank : begins_with_blank bytes ≡ true) →
      (did : DataDid limits style s bytes p) → LineDid limits style s bytes p
  Heading : (kept : is_skipped bytes ≡ false) → (filled : begins_with_blank bytes ≡ false) →
      (did : section_card s (word_fields bytes) ≡ Ok p) → LineDid limits style s bytes p

-- a line without fault is skipped, a heading, or the data card that it is read as
line_by : (limits : SizeLimits) (style : Style) (s : State) (bytes : List ℕ) (p : Progress) (given : CardReading) →
    on_reading limits style s (cond (is_skipped bytes) (Is card.Skip)
    (cond (begins_with_blank bytes) given (Is (card.Section (word_fields bytes))))) ≡ Ok p →
    (on_reading limits style s given ≡ Ok p → DataDid limits style s bytes p) → LineDid limits style s bytes p
line_by limits style s bytes p given h f = go (is_skipped bytes) (begins_with_blank bytes) refl refl h
  where
    go : (skipped blank : Bool) → is_skipped bytes ≡ skipped → begins_with_blank bytes ≡ blank →
        on_reading limits style s (cond skipped (Is card.Skip)
        (cond blank given (Is (card.Section (word_fields bytes)))))
        ≡ Ok p →
        LineDid limits style s bytes p
    go true blank e b k = Skipped e (same_ok (More s) p k)
    go false true e b k = Data e b (f k)
    go false false e b k = Heading e b k

-- in a section, fields that are read without fault are those of a data card of that section
data_did : (limits : SizeLimits) (style : Style) (s : State) (bytes : List ℕ) (p : Progress) (part : Section) →
    s.part ≡ Some part →
    more (data_card limits style s.part s (fields_in style part bytes)) ≡ Ok p → DataDid limits style s bytes p
data_did limits style s bytes p part e h =
    let a = step_ok (data_card limits style s.part s (fields_in style part bytes)) (λ t. Ok (More t)) p h in
    record {
      part = part;
      next = a.0;
      here = e;
      did = subst (λ here. data_card limits style here s (fields_in style part bytes) ≡ Ok a.0) e a.1;
      goes = same_ok (More a.0) p a.2;
    }

-- before all sections, no fields are read without fault
no_data : (limits : SizeLimits) (style : Style) (s : State) (bytes : List ℕ) (p : Progress) (fields : Fields) →
    s.part ≡ None →
    more (data_card limits style s.part s fields) ≡ Ok p → DataDid limits style s bytes p
no_data limits style s bytes p fields e h =
    let a = step_ok (data_card limits style s.part s fields) (λ t. Ok (More t)) p h in
    let k : data_card limits style None s fields ≡ Ok a.0 = subst (λ here. data_card limits style here s fields ≡ Ok
    a.0) e a.1 in
    absurd (cc)

-- a line of placed fields without fault is the data card of these fields
placed_did : (limits : SizeLimits) (style : Style) (s : State) (bytes : List ℕ) (p : Progress) (o : Option ℕ)
    (fields : Fields) →
    (more (data_card limits style s.part s fields) ≡ Ok p → DataDid limits style s bytes p) →
    on_reading limits style s (placed o fields) ≡ Ok p → DataDid limits style s bytes p
placed_did limits style s bytes p None fields f h = f h
placed_did limits style s bytes p (Some column) fields f h = absurd (cc)

-- a line without fault is skipped, a heading, or a data card of its section
line_did : (limits : SizeLimits) (style : Style) (here : Option Section) (s : State) (bytes : List ℕ) (p : Progress) →
    s.part ≡ here →
    on_reading limits style s (reading_of style here bytes) ≡ Ok p → LineDid limits style s bytes p
unfolding free_fields fixed_fields
line_did limits Free None s bytes p e h = line_by limits Free s bytes p _ h (no_data limits Free s bytes p
    (word_fields bytes) e)
line_did limits Free (Some part) s bytes p e h = line_by limits Free s bytes p _ h (data_did limits Free s bytes p part
    e)
line_did limits Fixed None s bytes p e h =
    line_by limits Fixed s bytes p _ h (placed_did limits Fixed s bytes p (misplaced_from 1 bytes)
    (column_fields bytes) (no_data limits Fixed s bytes p (column_fields bytes) e))
line_did limits Fixed (Some section.Sense) s bytes p e h =
    line_by limits Fixed s bytes p _ h (data_did limits Fixed s bytes p section.Sense e)
line_did limits Fixed (Some part) s bytes p e h =
    line_by limits Fixed s bytes p _ h
    (placed_did limits Fixed s bytes p (misplaced_from 1 bytes) (column_fields bytes) (data_did limits Fixed s bytes p
    part e))

pub step_did : (limits : SizeLimits) (style : Style) (s : State) (l : Line (List ℕ)) (p : Progress) →
    step limits style s l ≡ Ok p →
    LineDid limits style s (bytes_of l) p
unfolding step
step_did limits style s (line.Text bytes) p h = line_did limits style s.part s bytes p refl h
step_did limits style s (line.Long len) p h = absurd (cc)
step_did limits style s line.End p h = absurd (cc)
step_did limits style s line.Over p h = absurd (cc)
