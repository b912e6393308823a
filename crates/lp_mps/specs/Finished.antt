-- The end of a text.
use Rattle.std.specs.Prelude.{◌≡◌, Result, Ok, Err}
use Rattle.spec_model.specs.Model.{Model}
use Rattle.spec_model.specs.Kept.{IsModel}
use Rattle.spec_mps.specs.Steps.{Outcome, More, Done}
use Rattle.lp_mps.specs.declared.read.fault.Fault.{Fault}
use Rattle.lp_mps.specs.Answer.{Fails}

-- the code's result fits the outcome of a line: the model with which the text ends, or the fault
abbrev pub Ends : Outcome → Result Model Fault → Type 0
Ends outcome (Ok m) = outcome ≡ Ok (Done m)
Ends outcome (Err fault) = Fails outcome fault

-- if a line ends the text with a model, that is a valid one within the large limits; of other outcomes nothing is asked
abbrev pub IsKept : Outcome → Type 0
IsKept (Ok (Done m)) = IsModel m
IsKept (Ok (More s)) = Unit {0}
IsKept (Err code) = Unit {0}
