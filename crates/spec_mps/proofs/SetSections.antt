-- Where RHS and RANGES stand among the sections, and which cards are theirs.
--
-- `part_told`: where a card of RHS or RANGES may come, the section has begun.
-- `part_later`: while cards of ROWS are read, RHS and RANGES have not begun.
-- `part_not_rows`: ROWS is neither RHS nor RANGES.
-- `part_now`: a section that begins here has begun.
-- `cards_first`: before the first line there are no cards of RHS or RANGES.
-- `cards_titled`: a heading adds no card to the cards of RHS and RANGES that were read so far.
-- `cards_more`: a data card goes behind the cards of RHS or RANGES where it is one of that section.
-- `cards_all`: the cards of RHS or RANGES of the whole text are those that its lines have in that section.
-- `set_card_did`: a card of RHS or RANGES that is accepted sets the numbers of its pairs, or is skipped because another
--   set is used.
use Rattle.std.proofs.Common.{◌≡◌, true, false, Some, Ok, List, [], refl, sym, ◌∙◌, subst}
use Rattle.spec_model.specs.declared.parts.SizeLimits.{SizeLimits}
use Rattle.spec_mps.specs.declared.section.Section.{Section}
use Rattle.spec_mps.specs.declared.section.Section.TheVariants as section
use Rattle.spec_mps.specs.declared.section.Seen.{Seen}
use Rattle.spec_mps.specs.declared.style.Style.{Style}
use Rattle.spec_mps.specs.Fields.{Fields, texts_of}
use Rattle.spec_mps.specs.Shapes.{shaped}
use Rattle.spec_mps.specs.Reader.{State, in_turn}
use Rattle.spec_mps.specs.Steps.{has_begun, with_section, data_card}
use Rattle.spec_mps.proofs.CheckSteps.{step_ok}
use Rattle.spec_mps.proofs.Sets.{Sets, Sides, Ranges, part_of, pair_of, card_is}
use Rattle.spec_mps.proofs.CardsDid.{SetDid, card_did}
use Rattle.spec_mps.specs.NumberCards.{side_of}
use Rattle.spec_mps.specs.TextCards.{Lines, cards_in}
use Rattle.spec_mps.proofs.CardsSoFar.{is_section, SoFar, nothing, pushed, with_card, with_title}
use Rattle.spec_mps.proofs.AllCards.{all_of}
use Rattle.spec_mps.proofs.Order.{IsOrdered}
use Rattle.spec_mps.proofs.SetsKept.{side_is}

-- ---- among the sections

pub part_told : (sets : Sets) (s : State) → IsOrdered s.part s.seen → is_section s.part (part_of sets) ≡ true →
    has_begun s.seen (part_of sets) ≡ true
part_told Sides s o = o.told.right_sides
part_told Ranges s o = o.told.ranges

pub part_later : (sets : Sets) (s : State) → IsOrdered s.part s.seen → is_section s.part section.Rows ≡ true →
    has_begun s.seen (part_of sets) ≡ false
part_later Sides s o at = (o.ends_later (o.at_rows at)).right_sides
part_later Ranges s o at = (o.ends_later (o.at_rows at)).ranges

pub part_not_rows : (sets : Sets) → is_section (Some section.Rows) (part_of sets) ≡ false
part_not_rows Sides = refl
part_not_rows Ranges = refl

pub part_now : (sets : Sets) (seen : Seen) → has_begun (with_section seen (part_of sets)) (part_of sets) ≡ true
part_now Sides seen = refl
part_now Ranges seen = refl

-- ---- its cards

-- the cards of RHS or of RANGES that were read so far
abbrev pub set_cards : Sets → SoFar → List Fields
set_cards Sides c = c.right_sides
set_cards Ranges c = c.ranges

pub cards_first : (sets : Sets) → set_cards sets nothing ≡ []
cards_first Sides = refl
cards_first Ranges = refl

pub cards_titled : (sets : Sets) (p : Section) (words : Fields) (c : SoFar) →
    set_cards sets (with_title p words c) ≡ set_cards sets c
cards_titled Sides p words c = refl
cards_titled Ranges p words c = refl

pub cards_more : (sets : Sets) (p : Section) (card : Fields) (c : SoFar) →
    set_cards sets (with_card p card c) ≡ pushed (is_section (Some p) (part_of sets)) (set_cards sets c) card
cards_more Sides p card c = refl
cards_more Ranges p card c = refl

pub cards_all : (sets : Sets) (style : Style) (lines : Lines) →
    set_cards sets (all_of style lines) ≡ cards_in style (part_of sets) lines
cards_all Sides style lines = refl
cards_all Ranges style lines = refl

-- what a card did, by its fields
pub set_card_did : (limits : SizeLimits) (sets : Sets) (style : Style) (s : State) (card : Fields) (t : State) →
    data_card limits style (Some (part_of sets)) s card ≡ Ok t →
    SetDid s (side_of (texts_of card)) (in_turn (pair_of sets)) t
set_card_did limits sets style s card t h =
    let a = step_ok (shaped style (part_of sets) card) _ t (sym (card_is limits sets style s card) ∙ h) in
    subst (λ x. SetDid s x (in_turn (pair_of sets)) t) (sym (side_is sets style card a.0 a.1))
    (card_did limits sets style s card t h)
