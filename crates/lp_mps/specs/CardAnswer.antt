-- What the readers of cards answer.
use Rattle.std.specs.Prelude.{◌≡◌, Result, Ok, Err}
use Rattle.spec_mps.specs.declared.card.Card.{Card}
use Rattle.spec_mps.specs.Fields.{Fields, CardReading, Is}
use Rattle.spec_mps.specs.Fields as field
use Rattle.lp_mps.specs.declared.card.fault.CardFault.{CardFault}
use Rattle.lp_mps.specs.declared.card.fault.CardFault.TheVariants.{Misplaced, NoMemory}

-- the code's answer fits the reading of a line: its card, or the column of the misplaced byte; of an answer for lack of
-- memory nothing is asked
abbrev pub GivesCard : Result (Card Fields) CardFault → CardReading → Type 0
GivesCard (Ok card) reading = reading ≡ Is card
GivesCard (Err (Misplaced column)) reading = reading ≡ field.Misplaced column
GivesCard (Err NoMemory) reading = Unit {0}
