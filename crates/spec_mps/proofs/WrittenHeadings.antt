-- Reading the headings of a written text that have one word.
--
-- `heading_step`: a line read in both forms as a heading of one word is taken as that section's card.
-- `rows_step`: the line ROWS begins that section where it has not begun before.
-- `columns_step`: the line COLUMNS begins that section after ROWS, where there is an objective.
-- `sides_step`: the line RHS begins that section after COLUMNS, where it has not begun before.
-- `ranges_step`: the line RANGES begins that section after COLUMNS, where it has not begun before.
-- `bounds_step`: the line BOUNDS begins that section after COLUMNS, where it has not begun before.
use Rattle.std.proofs.Common.{◌≡◌, true, false, Option, Some, None, Ok, List, ℕ, [], ◌∷◌, refl, ap, ◌∙◌}
use Rattle.std.specs.Prelude.{codes}
use Rattle.spec_text.specs.declared.line.Line.TheVariants.{Text}
use Rattle.spec_text.specs.Words.{words_of}
use Rattle.spec_model.specs.Kept.{usual_limits}
use Rattle.spec_model.specs.Model.{Name}
use Rattle.spec_mps.specs.declared.card.Card.TheVariants.{Section as Heading}
use Rattle.spec_mps.specs.declared.style.Style.{Style}
use Rattle.spec_mps.specs.declared.style.Style.TheVariants.{Free, Fixed}
use Rattle.spec_mps.specs.declared.section.Section.{Section}
use Rattle.spec_mps.specs.declared.section.Section.TheVariants as section
use Rattle.spec_mps.specs.Cards.{is_skipped}
use Rattle.spec_mps.specs.Fields.{CardReading, Is, free_fields, fixed_fields, word_fields}
use Rattle.spec_mps.specs.Shapes.{section_of}
use Rattle.spec_mps.specs.Reader.{State}
use Rattle.spec_mps.specs.Steps.{More, begun, section_card, step, on_reading, reading_of}
use Rattle.spec_mps.specs.Written.{field_at}

-- a line that both forms read alike is read so in each style
alike : (style : Style) (part : Option Section) (line : List ℕ) (reading : CardReading) → free_fields line ≡ reading →
    fixed_fields line ≡ reading → reading_of style part line ≡ reading
alike Free part line reading a b = a
alike Fixed None line reading a b = b
alike Fixed (Some section.Name) line reading a b = b
alike Fixed (Some section.Sense) line reading a b = a
alike Fixed (Some section.Rows) line reading a b = b
alike Fixed (Some section.Columns) line reading a b = b
alike Fixed (Some section.RightSides) line reading a b = b
alike Fixed (Some section.Ranges) line reading a b = b
alike Fixed (Some section.Bounds) line reading a b = b
alike Fixed (Some section.End) line reading a b = b

pub heading_step : (style : Style) (s : State) (word : List ℕ) →
    free_fields word ≡ Is (Heading (field_at 1 word ∷ [])) → fixed_fields word ≡ Is (Heading (field_at 1 word ∷ []))
    → step usual_limits style s (Text word) ≡ section_card s (field_at 1 word ∷ [])
unfolding step
heading_step style s word a b =
    ap (on_reading usual_limits style s) (alike style s.part word (Is (Heading (field_at 1 word ∷ []))) a b)

pub rows_step : (style : Style) (s : State) → s.seen.rows ≡ false →
    step usual_limits style s (Text (codes "ROWS")) ≡ Ok (More (begun s section.Rows))
unfolding section_card section_of free_fields fixed_fields is_skipped word_fields words_of
rows_step style s h = heading_step style s (codes "ROWS") refl refl ∙ rw h refl

pub columns_step : (style : Style) (s : State) (objective : Name) → s.seen.rows ≡ true → s.seen.columns ≡ false →
    s.objective ≡ Some objective → step usual_limits style s (Text (codes "COLUMNS")) ≡ Ok
    (More (begun s section.Columns))
unfolding section_card section_of free_fields fixed_fields is_skipped word_fields words_of
columns_step style s objective h k o = heading_step style s (codes "COLUMNS") refl refl ∙ rw (h, k, o) refl

pub sides_step : (style : Style) (s : State) → s.seen.columns ≡ true → s.seen.right_sides ≡ false →
    step usual_limits style s (Text (codes "RHS")) ≡ Ok (More (begun s section.RightSides))
unfolding section_card section_of free_fields fixed_fields is_skipped word_fields words_of
sides_step style s h k = heading_step style s (codes "RHS") refl refl ∙ rw (h, k) refl

pub ranges_step : (style : Style) (s : State) → s.seen.columns ≡ true → s.seen.ranges ≡ false →
    step usual_limits style s (Text (codes "RANGES")) ≡ Ok (More (begun s section.Ranges))
unfolding section_card section_of free_fields fixed_fields is_skipped word_fields words_of
ranges_step style s h k = heading_step style s (codes "RANGES") refl refl ∙ rw (h, k) refl

pub bounds_step : (style : Style) (s : State) → s.seen.columns ≡ true → s.seen.bounds ≡ false →
    step usual_limits style s (Text (codes "BOUNDS")) ≡ Ok (More (begun s section.Bounds))
unfolding section_card section_of free_fields fixed_fields is_skipped word_fields words_of
bounds_step style s h k = heading_step style s (codes "BOUNDS") refl refl ∙ rw (h, k) refl
