-- A card of RHS or of RANGES of a written text is read as a number of its row.
--
-- `card_goes`: a written card of the set in use leads where its pair of a name and a number leads.
-- `number_goes`: a written card gives its number to the row behind those that are done.
use Rattle.std.proofs.Common.{◌≡◌, ℕ, true, false, Option, Some, Ok, List, [], ◌∷◌, ◌++◌, length, get_or, refl, sym, ap, ◌∙◌}
use Rattle.std.proofs.Common.{subst, arith}
use Rattle.std.specs.Prelude.{codes}
use Rattle.spec_exact.specs.Fraction.{ℚ}
use Rattle.spec_model.specs.Kept.{usual_limits}
use Rattle.spec_model.specs.declared.parts.Kind.{Kind}
use Rattle.spec_model.specs.Model.{Name, ExactRow, no_row, is_free}
use Rattle.spec_mps.specs.declared.style.Style.{Style}
use Rattle.spec_mps.specs.declared.style.Style.TheVariants.{Free, Fixed}
use Rattle.spec_mps.specs.declared.target.Target.{Target}
use Rattle.spec_mps.specs.declared.target.Target.TheVariants.{Row}
use Rattle.spec_mps.specs.NumberWritten.{IsWord, number_text}
use Rattle.spec_mps.specs.Shapes.{shaped, has_shape}
use Rattle.spec_mps.specs.Reader.{State, place_of, number_in, is_among}
use Rattle.spec_mps.specs.Sides.{is_used, changed_at, set_and_pairs, put_side, side_pair, rhs_by, rhs_card}
use Rattle.spec_mps.specs.Sides.{put_range, new_range, range_pair, ranges_by, ranges_card}
use Rattle.spec_mps.specs.Steps.{more, data_card}
use Rattle.spec_mps.specs.Written.{number_card, line_text}
use Rattle.spec_mps.proofs.Sets.{Sets, Sides, Ranges, part_of, pair_of}
use Rattle.spec_mps.proofs.WrittenCards.{IsItem, read_as}
use Rattle.spec_mps.proofs.WrittenSteps.{Goes}
use Rattle.spec_mps.proofs.WrittenBack.{cards_are_read_back}
use Rattle.spec_mps.proofs.WrittenRows.{IsAbsent, names_of, goes_one}
use Rattle.spec_mps.proofs.WrittenBehind.{changed_behind, there_behind}
use Rattle.spec_mps.proofs.WrittenParts.{number_fields, has_numbers, given_step, IsNumberCard}
use Rattle.spec_mps.proofs.WrittenRowNumbers.{IsUnpaired, place_of_row}

-- the set that a written card names: RHS in RHS, RNG in RANGES
abbrev pub group_of : Sets → Name
group_of Sides = codes "RHS"
group_of Ranges = codes "RNG"

-- a row with this number as its right side, for RHS, or as its range, for RANGES
abbrev pub with_value : Sets → ℚ → ExactRow → ExactRow
with_value Sides v r = record r { rhs = v }
with_value Ranges v r = record r { range = Some v }

-- a row of this kind takes such a number: each does for RHS, all but free rows for RANGES
abbrev pub Takes : Sets → Kind → Type 0
Takes Sides kind = Unit {0}
Takes Ranges kind = is_free kind ≡ false

-- ---- one card

-- a word of three letters is a word that has room in a field of 8 columns
letters_item : (style : Style) (a b c : ℕ) → IsWord (a ∷ b ∷ c ∷ []) → IsItem style 8 (a ∷ b ∷ c ∷ [])
letters_item Free a b c h = record { word = h; room = tt }
letters_item Fixed a b c h = record { word = h; room = omega arith }

-- the written sets of RHS and RANGES have room in a field of 8 columns
group_item : (sets : Sets) (style : Style) → IsItem style 8 (group_of sets)
group_item Sides style = letters_item style 82 72 83 (record { some = refl; printable = refl })
group_item Ranges style = letters_item style 82 78 71 (record { some = refl; printable = refl })

-- RHS and RANGES are sections whose cards have numbers
numbered : (sets : Sets) → has_numbers (part_of sets) ≡ true
numbered Sides = refl
numbered Ranges = refl

-- a set, a name and a text of a number are of the shape of RHS and of RANGES
set_shape : (sets : Sets) (style : Style) (name : Name) (text : List ℕ) →
    shaped style (part_of sets) (read_as style (number_fields (group_of sets) name text))
    ≡ Ok (group_of sets ∷ name ∷ text ∷ [])
unfolding shaped has_shape
set_shape Sides Free name text = refl
set_shape Sides Fixed name text = refl
set_shape Ranges Free name text = refl
set_shape Ranges Fixed name text = refl

-- a card of RHS or RANGES whose set is in use does what its pair does
card_read : (sets : Sets) (style : Style) (s t : State) (name : Name) (text : List ℕ) →
    is_used s.set (Some (group_of sets)) ≡ true →
    pair_of sets (record s { set = Some (Some (group_of sets)) }) name text ≡ Ok t →
    data_card usual_limits style (Some (part_of sets)) s (read_as style (number_fields (group_of sets) name text)) ≡ Ok
    t
unfolding rhs_card rhs_by ranges_card ranges_by set_and_pairs
card_read Sides style s t name text used put = rw (set_shape Sides style name text, used, put) refl
card_read Ranges style s t name text used put = rw (set_shape Ranges style name text, used, put) refl

pub card_goes : (sets : Sets) (style : Style) (s t : State) (name : Name) (v : ℚ) → s.part ≡ Some (part_of sets) →
    IsNumberCard style name v → is_used s.set (Some (group_of sets)) ≡ true →
    pair_of sets (record s { set = Some (Some (group_of sets)) }) name (number_text v) ≡ Ok t →
    Goes style s (number_card (group_of sets) name v ∷ []) t
card_goes sets style s t name v e card used put =
    let back =
    ((cards_are_read_back style).numbers (group_of sets) name
    (number_text v) (group_item sets style) card.row card.number).read in
    goes_one style s t (number_card (group_of sets) name v)
    (given_step style s (part_of sets) (line_text style (number_card (group_of sets) name v))
    (read_as style (number_fields (group_of sets) name (number_text v))) e (numbered sets) back
    ∙ ap more (card_read sets style s t name (number_text v) used put))

-- ---- the card of a row

-- a pair of a row's name and a number's text gives the row that number
row_put : (sets : Sets) (s : State) (name : Name) (text : List ℕ) (n : ℕ) (v : ℚ) →
    Takes sets (get_or s.rows n no_row).kind →
    place_of s name ≡ Some (Row n) → number_in text ≡ Ok v → is_among (Row n) s.paired ≡ false →
    pair_of sets s name text
    ≡ Ok (record s { rows = changed_at n (with_value sets v) s.rows; paired = Row n ∷ s.paired })
unfolding side_pair put_side range_pair put_range new_range
row_put Sides s name text n v takes there reads new = rw (there, reads, new) refl
row_put Ranges s name text n v takes there reads new =
    let limited : is_free (get_or s.rows n no_row).kind ≡ false = takes in
    rw (there, reads, limited, new) refl

-- the row behind those that are done gets its number where it is
pub number_goes : (sets : Sets) (style : Style) (s : State) (objective : Name) (done : List ExactRow) (r : ExactRow)
    (v : ℚ) (more : List ExactRow) (paired : List Target) (set : Option (Option Name)) →
    Takes sets r.kind → s.part ≡ Some (part_of sets) → s.objective ≡ Some objective →
    IsNumberCard style r.name v → IsAbsent r.name (objective ∷ names_of done) →
    IsUnpaired (length done) paired → is_used set (Some (group_of sets)) ≡ true →
    Goes style (record s { rows = done ++ r ∷ more; paired = paired; set = set })
    (number_card (group_of sets) r.name v ∷ [])
    (record s {
      rows = done ++ with_value sets v r ∷ more;
      paired = Row (length done) ∷ paired;
      set = Some (Some (group_of sets));
    })
number_goes sets style s objective done r v more paired set takes e o card absent unpaired used =
    let before : State = record s { rows = done ++ r ∷ more; paired = paired; set = set } in
    let here : State = record before { set = Some (Some (group_of sets)) } in
    let with_rows : List ExactRow → State =
    λ rows. record here { rows = rows; paired = Row (length done) ∷ paired } in
    let there = place_of_row here objective done r more o refl absent in
    let put =
    row_put sets here r.name (number_text v) (length done) v
    (subst (λ (q : ExactRow). Takes sets q.kind) (sym (there_behind done r more no_row)) takes) there card.reads (unpaired (length done) (omega arith)) in
    card_goes sets style before (with_rows (done ++ with_value sets v r ∷ more)) r.name v e card used
    (put ∙ ap (λ rows. Ok (with_rows rows)) (changed_behind (with_value sets v) done r more))
