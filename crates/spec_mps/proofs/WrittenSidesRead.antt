-- The whole section RHS of a written text, after its heading.
use Rattle.std.proofs.Common.{◌≡◌, ℕ, Bool, true, false, cond, Some, Ok, List, []}
use Rattle.std.proofs.Common.{◌∷◌, ◌++◌, map, refl, sym, ap, ◌∙◌, subst}
use Rattle.std.specs.Prelude.{codes}
use Rattle.spec_exact.specs.Fraction.{ℚ, 0ℚ, neg_ℚ, eq_ℚ}
use Rattle.spec_exact.proofs.Same.{eq_if}
use Rattle.spec_exact.proofs.Ruleset.{neg-neg, neg-zero}
use Rattle.spec_exact.proofs.Narrow.{neg_narrow}
use Rattle.spec_model.specs.Model.{Model, Name, ExactRow}
use Rattle.spec_model.specs.Kept.{IsModel, IsNarrowRow, FitsKind}
use Rattle.spec_mps.specs.declared.style.Style.{Style}
use Rattle.spec_mps.specs.declared.section.Section.TheVariants as section
use Rattle.spec_mps.specs.declared.target.Target.TheVariants.{Objective}
use Rattle.spec_mps.specs.NumberWritten.{IsWord, number_text}
use Rattle.spec_mps.specs.Reader.{State, place_of, number_in}
use Rattle.spec_mps.specs.Sides.{is_used, put_side, side_pair}
use Rattle.spec_mps.specs.Written.{number_card, side_cards}
use Rattle.spec_mps.proofs.Sets.{Sides}
use Rattle.spec_mps.proofs.WrittenSteps.{Goes, bare_row}
use Rattle.spec_mps.proofs.WrittenRows.{names_of, goes_then}
use Rattle.spec_mps.proofs.WrittenNames.{row_name_word, fresh_names}
use Rattle.spec_mps.proofs.WrittenPlaces.{same_itself}
use Rattle.spec_mps.proofs.WrittenParts.{IsNumberCard, number_card_of}
use Rattle.spec_mps.proofs.WrittenRoom.{RoomFor, room_front, room_back}
use Rattle.spec_mps.proofs.WrittenFacts.{rangeless, HasStart, IsUnbounded, HasNoSides, HasNoRanges}
use Rattle.spec_mps.proofs.WrittenRowNumbers.{IsUnpaired, RowsGo, rows_known}
use Rattle.spec_mps.proofs.WrittenSets.{card_goes}
use Rattle.spec_mps.proofs.WrittenSides.{NeedsSide, sides_of, sides_go}

-- ---- the rows

-- a row that may be kept, and whose right side has room, has what its card needs
side_known : (style : Style) (r : ExactRow) → IsWord r.name → FitsKind r.kind r.range → IsNarrowRow r →
    RoomFor style (side_cards r.name r.rhs) → NeedsSide style r
side_known style r word fit h room z =
    number_card_of style (codes "RHS") r.name r.rhs word h.rhs
    (subst (λ t. RoomFor style (cond t [] (number_card (codes "RHS") r.name r.rhs ∷ []))) z room)

-- the state in RHS once the offset is read: it has the model's offset, and no row has a right side or a range
record HasOffset (s : State) (m : Model) : Type 0 where
  pub known : HasStart s m
  pub unbounded : IsUnbounded s m
  pub part : s.part ≡ Some section.RightSides
  pub no_ranges : s.seen.ranges ≡ false
  pub offset : s.offset ≡ m.offset
  pub rows : s.rows ≡ map bare_row m.rows
  pub unpaired : IsUnpaired 0 s.paired
  pub used : is_used s.set (Some (codes "RHS")) ≡ true

-- once the offset is read, the written cards of the rows' right sides are read as these
rows_sided : (style : Style) (m : Model) → IsModel m → RoomFor style (sides_of m.rows) → (s : State) → HasOffset s m →
    (t : State) × Goes style s (sides_of m.rows) t × HasNoRanges t m
rows_sided style m kept room s h =
    let known =
    rows_known style (λ r. side_cards r.name r.rhs) (NeedsSide style)
    (side_known style) m.rows kept.rows kept.ranges kept.narrow_rows room in
    let go : RowsGo style s (map bare_row m.rows) (sides_of m.rows) (map rangeless m.rows) s.paired s.set =
    sides_go style s m.objective m.rows s.paired s.set h.part h.known.objective known
    (fresh_names m.objective (names_of m.rows) kept.rows_distinct) h.unpaired h.used in
    let here : RowsGo style s s.rows (sides_of m.rows) (map rangeless m.rows) s.paired s.set =
    subst (λ rows. RowsGo style s rows (sides_of m.rows) (map rangeless m.rows) s.paired s.set) (sym h.rows) go in (
      record s { rows = map rangeless m.rows; paired = here.0; set = here.1 },
      here.2,
      record {
        known = h.known;
        unbounded = h.unbounded;
        no_ranges = h.no_ranges;
        offset = h.offset;
        rows = refl;
      },
    )

-- ---- the objective

-- the objective's name stands for the objective
place_of_objective : (s : State) (objective : Name) → s.objective ≡ Some objective →
    place_of s objective ≡ Some Objective
unfolding place_of
place_of_objective s objective o = rw (o, same_itself objective) refl

-- a pair of the objective's name and a number's text makes the offset the negative of that number
offset_put : (s : State) (objective : Name) (text : List ℕ) (b : ℚ) → s.objective ≡ Some objective →
    number_in text ≡ Ok b → s.paired ≡ [] →
    side_pair s objective text ≡ Ok (record s { offset = neg_ℚ b; paired = Objective ∷ s.paired })
unfolding side_pair put_side
offset_put s objective text b o reads h = rw (place_of_objective s objective o, reads, h) refl

-- an offset whose negative is 0 by the test is 0
no_offset : (q : ℚ) → eq_ℚ (neg_ℚ q) 0ℚ ≡ true → q ≡ 0ℚ
no_offset q e = sym (neg-neg q) ∙ ap neg_ℚ (eq_if (neg_ℚ q) 0ℚ e) ∙ neg-zero

-- the written cards of RHS are read as the offset and the rows' right sides
pub sides_are_read : (style : Style) (m : Model) → IsModel m →
    RoomFor style (side_cards m.objective (neg_ℚ m.offset) ++ sides_of m.rows) → (s : State) → HasNoSides s m
    → (t : State) × Goes style s (side_cards m.objective (neg_ℚ m.offset) ++ sides_of m.rows) t × HasNoRanges t m
sides_are_read style m kept room s h = by (eq_ℚ (neg_ℚ m.offset) 0ℚ) refl
  where
    rest : RoomFor style (sides_of m.rows)
    rest = room_back style (side_cards m.objective (neg_ℚ m.offset)) (sides_of m.rows) room

    used : is_used s.set (Some (codes "RHS")) ≡ true
    used = rw h.no_set refl

    one : State
    one = record s { offset = neg_ℚ (neg_ℚ m.offset); paired = Objective ∷ s.paired; set = Some (Some (codes "RHS")) }

    has_one : HasOffset one m
    has_one =
        record {
          known = h.known;
          unbounded = h.unbounded;
          part = h.part;
          no_ranges = h.no_ranges;
          offset = neg-neg m.offset;
          rows = h.rows;
          unpaired = λ i k. rw h.none_paired refl;
          used = refl;
        }

    card : eq_ℚ (neg_ℚ m.offset) 0ℚ ≡ false →
        Goes style s (number_card (codes "RHS") m.objective (neg_ℚ m.offset) ∷ []) one
    card z =
        let here : RoomFor style (side_cards m.objective (neg_ℚ m.offset)) =
        room_front style (side_cards m.objective (neg_ℚ m.offset)) (sides_of m.rows) room in
        let is : IsNumberCard style m.objective (neg_ℚ m.offset) =
        number_card_of style (codes "RHS") m.objective (neg_ℚ m.offset)
        (row_name_word m.objective kept.objective) (neg_narrow m.offset kept.offset)
        (subst (λ t. RoomFor style (cond t [] (number_card (codes "RHS") m.objective (neg_ℚ m.offset) ∷ []))) z here) in
        card_goes Sides style s one m.objective (neg_ℚ m.offset) h.part is used
        (offset_put (record s { set = Some (Some (codes "RHS")) }) m.objective (number_text (neg_ℚ m.offset))
        (neg_ℚ m.offset) h.known.objective is.reads h.none_paired)

    by : (t : Bool) → eq_ℚ (neg_ℚ m.offset) 0ℚ ≡ t →
        (u : State)
        × Goes style s (cond t [] (number_card (codes "RHS") m.objective (neg_ℚ m.offset) ∷ []) ++ sides_of m.rows) u
        × HasNoRanges u m
    by true z =
        rows_sided style m kept rest s
        (record {
          known = h.known;
          unbounded = h.unbounded;
          part = h.part;
          no_ranges = h.no_ranges;
          offset = h.offset ∙ sym (no_offset m.offset z);
          rows = h.rows;
          unpaired = λ i k. rw h.none_paired refl;
          used = used;
        })
    by false z =
        let r = rows_sided style m kept rest one has_one in (
          r.0,
          goes_then style s one r.0 (number_card (codes "RHS") m.objective (neg_ℚ m.offset))
              (sides_of m.rows) (card z) r.1,
          r.2,
        )
