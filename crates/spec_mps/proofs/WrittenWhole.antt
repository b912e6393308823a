-- The text that a model is written as spells that model.
--
-- `free_spells`: the free-form text of a usual model spells that model, where its columns are read.
-- `fixed_spells`: the fixed-form text of a usual model spells that model, where nothing is too wide and its columns are
--   read.
-- `no_other`: lines that spell one model spell no other.
use Rattle.std.proofs.Common.{◌≡◌, ◌↔◌, ℕ, ◌+◌, false, Option, Some, None, List, [], ◌∷◌, ◌++◌, length}
use Rattle.std.proofs.Common.{get_or, refl, sym, ap, ◌∙◌, subst, append_assoc}
use Rattle.std.specs.Prelude.{codes}
use Rattle.std.proofs.lemmas.List.{map-append}
use Rattle.spec_text.specs.Lines.{lines_of}
use Rattle.spec_text.specs.declared.line.Line.{Line}
use Rattle.spec_text.specs.declared.line.Line.TheVariants.{Text}
use Rattle.spec_exact.specs.Fraction.{neg_ℚ}
use Rattle.spec_model.specs.declared.parts.Sense.{Sense}
use Rattle.spec_model.specs.declared.parts.Sense.TheVariants.{Min, Max}
use Rattle.spec_model.specs.Model.{Model, Name}
use Rattle.spec_mps.specs.declared.section.Section.{Section}
use Rattle.spec_mps.specs.declared.section.Section.TheVariants as section
use Rattle.spec_mps.specs.declared.section.Seen.{Seen}
use Rattle.spec_model.specs.Kept.{IsUsualModel, usual_limits}
use Rattle.spec_mps.specs.declared.style.Style.{Style}
use Rattle.spec_mps.specs.declared.style.Style.TheVariants.{Free, Fixed}
use Rattle.spec_mps.specs.Reader.{State, start}
use Rattle.spec_mps.specs.Steps.{Verdict, Spelled, Spells, judge, settled, with_section, sense_or_min}
use Rattle.spec_mps.specs.Written.{WrittenCards, cards_of, cards_text, name_card, sense_cards}
use Rattle.spec_mps.specs.Written.{rows_cards, columns_cards, sides_cards, ranges_cards, bounds_cards}
use Rattle.spec_mps.specs.Written.{section_card, side_cards, line_text, too_wide, free, fixed}
use Rattle.spec_mps.proofs.WrittenSteps.{Goes, Fits, HasNoRows, HasNoColumns, ColumnsAreRead}
use Rattle.spec_mps.proofs.WrittenSteps.{card_lines, with_start_of, with_rows_of, with_columns_of}
use Rattle.spec_mps.proofs.WrittenLines.{has_its_lines}
use Rattle.spec_mps.proofs.WrittenStart.{start_is_read}
use Rattle.spec_mps.proofs.WrittenRowsRead.{rows_are_read}
use Rattle.spec_mps.proofs.WrittenGoes.{goes_append}
use Rattle.spec_mps.proofs.WrittenRoom.{room_back, room_of}
use Rattle.spec_mps.proofs.WrittenFacts.{HasNoSides, HasNoRanges, IsWhole}
use Rattle.spec_mps.proofs.WrittenSides.{sides_of}
use Rattle.spec_mps.proofs.WrittenSidesRead.{sides_are_read}
use Rattle.spec_mps.proofs.WrittenRanges.{ranges_are_read}
use Rattle.spec_mps.proofs.WrittenBoundsRead.{bounds_are_read, end_step}
use Rattle.spec_mps.proofs.WrittenShort.{cards_short, plain_line}

-- ---- the states

-- a name and a sense alone, after some sections
abbrev started : Option Section → Seen → Name → Option Sense → State
started part seen name sense = record start { part = part; seen = seen; name = name; sense = sense }

-- none of ROWS, COLUMNS, RHS, RANGES and BOUNDS has begun
record IsFresh (seen : Seen) : Type 0 where
  rows : seen.rows ≡ false
  columns : seen.columns ≡ false
  right_sides : seen.right_sides ≡ false
  ranges : seen.ranges ≡ false
  bounds : seen.bounds ≡ false

-- what holds of all states with a name and a sense alone holds before ROWS
at_start : (P : State → Type 0) (name : Name) (sense : Sense) →
    ((part : Option Section) (seen : Seen) (o : Option Sense) → IsFresh seen → sense_or_min o ≡ sense →
    P (started part seen name o)) → P (with_start_of name sense)
at_start P name Min f =
    f (Some section.Name) (with_section start.seen section.Name) None
    (record { rows = refl; columns = refl; right_sides = refl; ranges = refl; bounds = refl }) refl
at_start P name Max f =
    f (Some section.Sense) (with_section (with_section start.seen section.Name) section.Sense) (Some Max)
    (record { rows = refl; columns = refl; right_sides = refl; ranges = refl; bounds = refl }) refl

-- the state before ROWS of a written text has no rows
rows_first : (name : Name) (sense : Sense) → HasNoRows (with_start_of name sense)
rows_first name sense =
    at_start HasNoRows name sense
    (λ part seen o fresh e.
    record { no_section = fresh.rows; no_objective = refl; no_row = refl })

-- the state after ROWS of a written text has the model's rows and no columns
columns_then : (m : Model) (sense : Sense) → HasNoColumns (with_rows_of (with_start_of m.name sense) m) m
columns_then m sense =
    at_start (λ s. HasNoColumns (with_rows_of s m) m) m.name sense (λ part seen o fresh e.
    record {
      rows_are_read = refl;
      no_section = fresh.columns;
      no_sides = fresh.right_sides;
      objective = refl;
      rows = refl;
      no_column = refl;
      none_open = refl;
      none_lowered = refl;
    })

-- the state after COLUMNS of a written text has the model's columns and no right sides
sides_then : (m : Model) → HasNoSides (with_columns_of (with_rows_of (with_start_of m.name m.sense) m) m) m
sides_then m =
    at_start (λ s. HasNoSides (with_columns_of (with_rows_of s m) m) m) m.name m.sense (λ part seen o fresh e.
    record {
      known =
          record { name = refl; sense = e; objective = refl; may_follow = refl; none_open = refl };
      unbounded = record { no_bounds = fresh.bounds; columns = refl; none_lowered = refl };
      part = refl;
      no_ranges = fresh.ranges;
      offset = refl;
      rows = refl;
      none_paired = refl;
      no_set = refl;
    })

-- ---- the cards

-- four lists of cards, one behind the other, are the same however they are grouped
regroup : (a c : WrittenCards) (r s : WrittenCards) → (a ++ (c ++ r)) ++ s ≡ (a ++ c) ++ (r ++ s)
regroup a c r s = append_assoc a (c ++ r) s ∙ ap (λ l. a ++ l) (append_assoc c r s) ∙ sym (append_assoc a c (r ++ s))

-- the cards of RHS without the heading: that of the objective, then those of the rows
abbrev sides : Model → WrittenCards
sides m = side_cards m.objective (neg_ℚ m.offset) ++ sides_of m.rows

-- the cards before ENDATA
abbrev body : Model → WrittenCards
body m =
    (name_card m.name ∷ sense_cards m.sense) ++ rows_cards m
    ++ columns_cards m ++ sides_cards m ++ ranges_cards m ++ bounds_cards m

-- the cards up to RHS lead to a state with all but ranges and bounds
sides_goes : (style : Style) (m : Model) → IsUsualModel m → Fits style m → ColumnsAreRead style m
    → (t : State) × Goes style start
    ((name_card m.name ∷ sense_cards m.sense) ++ rows_cards m ++ columns_cards m ++ sides_cards m) t × HasNoRanges t m
unfolding sides_cards
sides_goes style m kept fits columns_are_read =
    let first : WrittenCards = name_card m.name ∷ sense_cards m.sense in
    let heading : WrittenCards = section_card (codes "RHS") ∷ [] in
    let a : State = with_start_of m.name m.sense in
    let b : State = with_rows_of a m in
    let c : State = with_columns_of b m in
    let rows = rows_are_read style m kept fits a (rows_first m.name m.sense) in
    let columns = columns_are_read b (columns_then m m.sense) in
    let right =
    sides_are_read style m kept.0 (room_back style heading (sides m) (room_of style m fits).sides) c
    (sides_then m) in
    let to_rows = goes_append style start a b first (rows_cards m) (start_is_read style m kept.0) rows in
    let to_columns = goes_append style start b c (first ++ rows_cards m) (columns_cards m ++ heading) to_rows columns in
    let to_sides =
    goes_append style start c right.0
    ((first ++ rows_cards m) ++ (columns_cards m ++ heading)) (sides m) to_columns right.1 in (
      right.0,
      subst (λ cards. Goes style start cards right.0)
          (regroup (first ++ rows_cards m) (columns_cards m) heading (sides m)) to_sides,
      right.2,
    )

-- the cards before ENDATA lead to a state that has all of the model
body_goes : (style : Style) (m : Model) → IsUsualModel m → Fits style m → ColumnsAreRead style m →
    (t : State) × Goes style start (body m) t × IsWhole t m
body_goes style m kept fits columns_are_read =
    let first : WrittenCards =
    (name_card m.name ∷ sense_cards m.sense) ++ rows_cards m ++ columns_cards m ++ sides_cards m in
    let a = sides_goes style m kept fits columns_are_read in
    let b = ranges_are_read style m kept.0 (room_of style m fits).ranges a.0 a.2 in
    let c = bounds_are_read style m kept.0 (room_of style m fits).bounds b.0 b.2 in
    let to_ranges = goes_append style start a.0 b.0 first (ranges_cards m) a.1 b.1 in
    (c.0, goes_append style start b.0 c.0 (first ++ ranges_cards m) (bounds_cards m) to_ranges c.1, c.2)

-- the lines of the cards of a usual model that fits the form spell the model, where its columns are read
cards_spell : (style : Style) (m : Model) → IsUsualModel m → Fits style m → ColumnsAreRead style m →
    judge usual_limits style start 1 (card_lines style (cards_of m)) ≡ Spelled m
unfolding cards_of
cards_spell style m kept fits columns_are_read =
    let g = body_goes style m kept fits columns_are_read in
    ap (judge usual_limits style start 1)
    (map-append (λ card. Text (line_text style card)) (body m) (section_card (codes "ENDATA") ∷ []))
    ∙ g.1.goes 1 (Text (codes "ENDATA") ∷ [])
    ∙ ap (settled (1 + length (body m)) (λ u. judge usual_limits style u (1 + length (body m) + 1) []))
    (end_step style g.0 m g.2)

-- ---- the text

-- the lines of the text of a usual model that fits the form spell the model, where its columns are read
text_spells : (style : Style) (m : Model) → IsUsualModel m → Fits style m → ColumnsAreRead style m →
    Spells style (lines_of (cards_text style (cards_of m))) m
text_spells style m kept fits columns_are_read =
    ap (judge usual_limits style start 1)
    (has_its_lines style (cards_of m) (λ i d a. plain_line style (get_or (cards_of m) i d) (cards_short m kept.0 i d
    a)))
    ∙ cards_spell style m kept fits columns_are_read

pub free_spells : (m : Model) → IsUsualModel m → ColumnsAreRead Free m → Spells Free (lines_of (free m)) m
unfolding free
free_spells m kept columns_are_read = text_spells Free m kept tt columns_are_read

pub fixed_spells : (m : Model) → IsUsualModel m → too_wide m ≡ None → ColumnsAreRead Fixed m →
    Spells Fixed (lines_of (fixed m)) m
unfolding fixed
fixed_spells m kept narrow columns_are_read = text_spells Fixed m kept narrow columns_are_read

-- a text of a model is one of no other
pub no_other : (style : Style) (lines : List (Line (List ℕ))) (m n : Model) → Spells style lines m →
    (Spells style lines n ↔ (n ≡ m))
no_other style lines m n h = (
  same (judge usual_limits style start 1 lines) h,
  λ e. subst (λ x. Spells style lines x)
      (sym e) h,
)
  where
    same : (v : Verdict) → v ≡ Spelled m → v ≡ Spelled n → n ≡ m
    same v e f = cc
