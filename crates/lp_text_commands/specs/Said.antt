-- What a command may take of what an input says, and what is written of that.
use Rattle.std.specs.Prelude.{ℕ, ◌≡◌, List, Result, Ok, Err}
use Rattle.spec_model.specs.Model.{Model}
use Rattle.spec_mps.specs.declared.fault.MpsFault.{MpsFault}
use Rattle.spec_server.specs.declared.asks.Reply.TheVariants as reply
use Rattle.spec_server.specs.declared.asks.Refusal.TheVariants as refusal
use Rattle.spec_server.specs.Output.{check_line}
use Rattle.spec_server.specs.TextSaid.{TextSaid}

-- if the input gives something, that may be taken; of a fault nothing is asked
abbrev pub MayTake : {G F : Type 0} → (G → Type 0) → Result G F → Type 0
MayTake Takes (Ok given) = Takes given
MayTake Takes (Err fault) = Unit {0}

-- this may be written of what an input says: what `Out` allows of what it gives, or the line of its fault
abbrev pub SaidOut : {G F : Type 0} → (G → List ℕ → Type 0) → (F → List ℕ) → Result G F → List ℕ → Type 0
SaidOut Out line (Ok given) written = Out given written
SaidOut Out line (Err fault) written = written ≡ line fault

-- the line that refuses a model's text with its fault
abbrev pub misspelled_line : MpsFault → List ℕ
misspelled_line fault = check_line (reply.Refused (refusal.Misspelled fault))

-- this may be written of a model's text: what `Out` allows of its model, or the line of its fault
abbrev pub TextOut : (Model → List ℕ → Type 0) → TextSaid → List ℕ → Type 0
TextOut Out said written = SaidOut Out misspelled_line said written
