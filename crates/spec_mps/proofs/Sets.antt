-- RHS and RANGES alike: the sections whose cards have a set and pairs of a row's name and a number.
--
-- `shapes_are`: cards of RHS and of RANGES may have the same shapes in each form.
-- `card_is`: the reader takes a card of RHS or RANGES as a set with pairs, where that set is used.
use Rattle.std.proofs.Common.{◌≡◌, ℕ, Some, List, refl}
use Rattle.spec_model.specs.declared.parts.SizeLimits.{SizeLimits}
use Rattle.spec_model.specs.Model.{Name}
use Rattle.spec_mps.specs.declared.section.Section.{Section}
use Rattle.spec_mps.specs.declared.section.Section.TheVariants as section
use Rattle.spec_mps.specs.declared.style.Style.{Style}
use Rattle.spec_mps.specs.declared.style.Style.TheVariants.{Free, Fixed}
use Rattle.spec_mps.specs.Fields.{Fields}
use Rattle.spec_mps.specs.Checks.{Check}
use Rattle.spec_mps.specs.Shapes.{shapes_of, set_shapes}
use Rattle.spec_mps.specs.Reader.{State, in_turn}
use Rattle.spec_mps.specs.Sides.{if_used, set_card, side_pair, range_pair, rhs_by, ranges_by, rhs_card, ranges_card}
use Rattle.spec_mps.specs.Steps.{data_card}

-- one of the two sections whose cards have sets and pairs: RHS or RANGES
pub data Sets : Type 0 where
  Sides : Sets
  Ranges : Sets

-- the section: RHS or RANGES
abbrev pub part_of : Sets → Section
part_of Sides = section.RightSides
part_of Ranges = section.Ranges

-- the state after a pair of a name and a number's text: of RHS, or of RANGES
abbrev pub pair_of : Sets → State → Name → List ℕ → Check State
pair_of Sides = side_pair
pair_of Ranges = range_pair

pub shapes_are : (sets : Sets) (style : Style) → shapes_of style (part_of sets) ≡ set_shapes style
shapes_are Sides Free = refl
shapes_are Sides Fixed = refl
shapes_are Ranges Free = refl
shapes_are Ranges Fixed = refl

pub card_is : (limits : SizeLimits) (sets : Sets) (style : Style) (s : State) (fields : Fields) →
    data_card limits style (Some (part_of sets)) s fields
    ≡ set_card (part_of sets) (if_used (in_turn (pair_of sets))) style s fields
unfolding rhs_card rhs_by ranges_card ranges_by
card_is limits Sides style s fields = refl
card_is limits Ranges style s fields = refl
