-- What a line leads to.
use Rattle.std.specs.Prelude.{◌≡◌, Option, Some, None, Result, Ok, Err}
use Rattle.spec_model.specs.Model.{Model}
use Rattle.spec_mps.specs.Reader.{State}
use Rattle.spec_mps.specs.Steps.{Outcome, More, Done}
use Rattle.lp_mps.specs.declared.read.fault.Fault.{Fault}
use Rattle.lp_mps.specs.Answer.{Fails}

-- The code's answer to a line fits its outcome: no model, where it leads to this state; the model, where it ends the
-- text; or the fault. Of an answer for lack of memory nothing is asked.
abbrev pub Advances : Outcome → State → Result (Option Model) Fault → Type 0
Advances outcome state (Ok None) = outcome ≡ Ok (More state)
Advances outcome state (Ok (Some m)) = outcome ≡ Ok (Done m)
Advances outcome state (Err fault) = Fails outcome fault
