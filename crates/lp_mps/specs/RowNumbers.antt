-- The cards of a row's number.
use Rattle.spec_model.specs.Model.{ExactRow}
use Rattle.spec_mps.specs.Written.{WrittenCards, side_cards, range_cards}
use Rattle.lp_mps.specs.declared.write.sections.RowNumber.{RowNumber}
use Rattle.lp_mps.specs.declared.write.sections.RowNumber.TheVariants.{Side, Range}

-- the list of the card of a row's right side, if that is not 0, or of its range, if it has one; else empty
abbrev pub number_cards : RowNumber → ExactRow → WrittenCards
number_cards Side r = side_cards r.name r.rhs
number_cards Range r = range_cards r.name r.range
