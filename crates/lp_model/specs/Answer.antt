-- What applying an edit leaves and answers.
use Rattle.std.specs.Prelude.{◌≡◌, ⊤, Bool, IsTrue, Result, Ok, Err}
use Rattle.spec_model.specs.Model.{Model}
use Rattle.spec_edit.specs.Edited.{ExactEdit, OrFault, edited, takes_memory}
use Rattle.lp_model.specs.declared.edit.EditError.{EditError}
use Rattle.lp_model.specs.declared.edit.EditError.TheVariants.{Fault, NoMemory}

-- A change of m leaves n with the code's result, where this is the answer for it: done, and n is the answer's model; or
-- the answer's fault, and n is still m. Memory may run out only where `takes` says so, and then n is still m.
abbrev pub Leaves : OrFault Model → Bool → Model → Model → Result ⊤ EditError → Type 0
Leaves answer takes m n (Ok done) = answer ≡ Ok n
Leaves answer takes m n (Err (Fault fault)) = (answer ≡ Err fault) × (n ≡ m)
Leaves answer takes m n (Err NoMemory) = IsTrue takes × (n ≡ m)

-- the code applies the edit to m, which leaves n: the edited model, or m after a fault or for lack of memory
abbrev pub Applies : Model → ExactEdit → Model → Result ⊤ EditError → Type 0
Applies m edit n result = Leaves (edited m edit) (takes_memory edit) m n result

-- the answer is what the code gives: this value, or this fault; of a failure for lack of memory nothing is asked
abbrev pub GivesEdited : {A : Type 0} → OrFault A → Result A EditError → Type 0
GivesEdited answer (Ok a) = answer ≡ Ok a
GivesEdited answer (Err (Fault fault)) = answer ≡ Err fault
GivesEdited answer (Err NoMemory) = Unit {0}
