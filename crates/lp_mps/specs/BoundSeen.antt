-- The cards of BOUNDS as the code holds them.
use Rattle.std.specs.Prelude.{Bool, true, false, Option, Some, None, Result, Ok, Err, []}
use Rattle.std.specs.Option.{option_copied}
use Rattle.spec_model.specs.Model.{Name}
use Rattle.spec_mps.specs.declared.fault.Code.{Code}
use Rattle.spec_mps.specs.declared.fault.Code.TheVariants as code
use Rattle.spec_mps.specs.Checks.{Check}
use Rattle.spec_mps.specs.Bounds as bounds
use Rattle.lp_mps.specs.declared.read.bound_card.BoundCard.{BoundCard}
use Rattle.lp_mps.specs.declared.read.bound_card.BoundCard.TheVariants as card
use Rattle.lp_mps.specs.declared.read.bounds.BoundTexts.{BoundTexts}

-- what the code holds of what a card of BOUNDS does, as the definition has it
abbrev pub bound_seen : BoundCard → bounds.BoundCard
bound_seen (card.SetsUpper u) = bounds.SetsUpper u
bound_seen (card.SetsLower l) = bounds.SetsLower l
bound_seen (card.SetsBoth l u) = bounds.SetsBoth l u

-- what the code gives for a card of BOUNDS, as the definition has it: what the card does, or the code of its fault
abbrev pub bound_made : Result BoundCard Code → Check bounds.BoundCard
bound_made (Ok card) = Ok (bound_seen card)
bound_made (Err code) = Err code

-- the set, the column and the value that the code holds of a card of BOUNDS, as the definition has them
abbrev pub texts_seen : BoundTexts → bounds.BoundTexts
texts_seen texts = record { set = option_copied texts.set; column = texts.column.now; value = texts.value.now }

-- what the code gives of the texts, as the definition has it: the set, the column and the value, or the code of the fault
abbrev pub texts_made : Result BoundTexts Code → Check bounds.BoundTexts
texts_made (Ok texts) = Ok (texts_seen texts)
texts_made (Err code) = Err code

-- The set, the column and the value of a card of BOUNDS, by whether its kind takes a value, from the first four texts
-- behind the kind. The set may be left out. The value is empty where the kind takes none. Too few or too many texts are
-- a fault of shape.
abbrev pub texts_by : Bool → Option Name → Option Name → Option Name → Option Name → Check bounds.BoundTexts
texts_by true (Some column) (Some value) None fourth = Ok (record { set = None; column = column; value = value })
texts_by true (Some set) (Some column) (Some value) None =
    Ok (record { set = Some set; column = column; value = value })
texts_by false (Some column) None third fourth = Ok (record { set = None; column = column; value = [] })
texts_by false (Some set) (Some column) None fourth = Ok (record { set = Some set; column = column; value = [] })
texts_by has_value first second third fourth = Err code.CardShape
