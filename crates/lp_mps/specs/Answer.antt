-- What steps answer. Where memory runs out nothing is said.
use Rattle.std.specs.Prelude.{◌≡◌, Result, Ok, Err}
use Rattle.std.specs.Bool.{⊤}
use Rattle.lp_mps.specs.declared.card.fault.CardFault.{CardFault}
use Rattle.lp_mps.specs.declared.card.fault.CardFault.TheVariants as card_fault
use Rattle.spec_mps.specs.declared.fault.Code.TheVariants as code
use Rattle.spec_mps.specs.Checks.{Check}
use Rattle.spec_mps.specs.Reader.{State}
use Rattle.spec_mps.specs.Steps.{Outcome, More, finished}
use Rattle.lp_mps.specs.declared.read.fault.Fault.{Fault}
use Rattle.lp_mps.specs.declared.read.fault.Fault.TheVariants as fault
use Rattle.lp_mps.specs.declared.read.fault.Went.{Went}
use Rattle.lp_mps.specs.declared.read.fault.Went.TheVariants as went

-- why a line has no card, as a fault of the reader: a misplaced byte is a fault of shape, and lack of memory stays that
abbrev pub fault_of : CardFault → Fault
fault_of (card_fault.Misplaced column) = fault.Code code.CardShape
fault_of card_fault.NoMemory = fault.NoMemory

-- the check fails with the code of this fault; of a fault for lack of memory nothing is asked
abbrev pub Fails : {A : Type 0} → Check A → Fault → Type 0
Fails check (fault.Code code) = check ≡ Err code
Fails check fault.NoMemory = Unit {0}

-- the code's answer fits the check: done, where it gives this state; or the fault with which it fails. Of an answer for
-- lack of memory nothing is asked
abbrev pub GivesState : Check State → State → Result ⊤ Fault → Type 0
GivesState check state (Ok done) = check ≡ Ok state
GivesState check state (Err fault) = Fails check fault

-- The code's answer to a line fits its outcome: it goes on, where that leads to this state; it is at the end, where
-- that is the end of the text in this state; or the fault. Of an answer for lack of memory nothing is asked.
abbrev pub Goes : Outcome → State → Result Went Fault → Type 0
Goes outcome state (Ok went.On) = outcome ≡ Ok (More state)
Goes outcome state (Ok went.ToEnd) = outcome ≡ finished state
Goes outcome state (Err fault) = Fails outcome fault
