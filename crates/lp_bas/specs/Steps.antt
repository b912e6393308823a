-- What the parts of a step leave.
use Rattle.std.specs.Prelude.{◌≡◌, ⊤, Option, Some, None, Result, Ok, Err, List}
use Rattle.spec_pivot.specs.declared.status.Status.{Status}
use Rattle.spec_bas.specs.declared.fault.BasCode.{BasCode}
use Rattle.spec_bas.specs.Steps.{State, Check, Outcome, More, Done}
use Rattle.lp_bas.specs.declared.marks.StepFault.{StepFault}
use Rattle.lp_bas.specs.declared.marks.StepFault.TheVariants.{Wrong, NoMemory}

-- the code's result fits the check: done, with the check's state; or its code, and the state is as it was
abbrev pub IsStep : Check State → State → State → Result ⊤ BasCode → Type 0
IsStep check old new (Ok done) = check ≡ Ok new
IsStep check old new (Err code) = (check ≡ Err code) × (new ≡ old)

-- The code's result for a line fits its outcome: it goes on, with the outcome's state; or has ended with the basis, or
-- fails with the code, and the state is as it was. For lack of memory the state alone is as it was.
abbrev pub Advances : Outcome → State → State → Result (Option (List Status)) StepFault → Type 0
Advances outcome old new (Ok None) = outcome ≡ Ok (More new)
Advances outcome old new (Ok (Some basis)) = (outcome ≡ Ok (Done basis)) × (new ≡ old)
Advances outcome old new (Err (Wrong code)) = (outcome ≡ Err code) × (new ≡ old)
Advances outcome old new (Err NoMemory) = new ≡ old
