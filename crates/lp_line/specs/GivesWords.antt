-- What reading an edit answers.
use Rattle.std.specs.Prelude.{◌≡◌, Result, Ok, Err}
use Rattle.spec_server.specs.EditCommand.{Reads}
use Rattle.lp_line.specs.declared.edits.EditStop.{EditStop}
use Rattle.lp_line.specs.declared.edits.EditStop.TheVariants.{Fault, NoMemory}

-- the code gives what the definition reads of the words: the value or the fault;
-- of a stop for lack of memory nothing is asked
abbrev pub GivesWords : {A : Type 0} → Reads A → Result A EditStop → Type 0
GivesWords answer (Ok x) = answer ≡ Ok x
GivesWords answer (Err (Fault fault)) = answer ≡ Err fault
GivesWords answer (Err NoMemory) = Unit {0}
