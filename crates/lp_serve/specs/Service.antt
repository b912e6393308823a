-- The service of one link: the steps of its session, with the calls of a pass, and what is read and written of it.
use Rattle.std.specs.Prelude.{ℕ, ◌≡◌, ◌++◌, List, [], ◌∷◌, Option, Some, None, Result, Ok, Err}
use Rattle.spec_server.specs.declared.addressing.Addressing.TheVariants.{Alone}
use Rattle.spec_server.specs.Exchanges.{Exchange}
use Rattle.spec_server.specs.Machine.{ExactAsk, State, opening}
use Rattle.spec_server.specs.Step.{AloneStep}
use Rattle.spec_server.specs.Streams.{Streams}
use Rattle.spec_serve.specs.declared.link_end.LinkEnd.{LinkEnd}
use Rattle.spec_serve.specs.declared.link_end.LinkEnd.TheVariants as end
use Rattle.spec_serve.specs.Link.{ServesLink}
use Rattle.basis_board.specs.declared.seats.View.{View}
use Rattle.basis_board.specs.Rule.{Consistent}
use Rattle.basis_board.specs.PassReads.{reads_of}
use Rattle.lp_base.specs.LinesState.{LinesState}
use Rattle.lp_line.specs.declared.halt.Halt.TheVariants as halts
use Rattle.lp_line.specs.Takes.{TakesNext, TakesMore}
use Rattle.lp_session.specs.Boarding.{StepCalls}

-- ---- the steps of a session

-- one step of a session, by calls of a pass that knew v before them and knows w after them
pub record StepBy (v : View) (old : State) (x : Exchange) (w : View) (new : State) : Type 0 where
  pub step : AloneStep v.places old x.ask x.reads x.reply new
  pub reads : reads_of w ≡ reads_of v ++ x.reads
  pub calls : StepCalls v w
  pub consistent : Consistent v → Consistent w

-- the steps of a session, one for each exchange, one after the other
abbrev pub Steps : View → State → List Exchange → View → State → Type 0
Steps v old [] w new = (w ≡ v) × (new ≡ old)
Steps v old (x ∷ xs) w new =
    (u : View) × (middle : State) × StepBy v old x u middle × Steps u middle xs w new

-- ---- the asks of a link

-- what the reading of a link's next request gives: the request, or the end of the link where none comes
abbrev pub TakesAsk : Option (List ℕ) → Option (List ℕ) → LinesState → LinesState → Result ExactAsk LinkEnd → Type 0
TakesAsk before after old new (Ok asked) =
    TakesNext Alone before after old new (Ok (Some (record { session = 0; ask = asked })))
    × TakesMore old new (Ok (Some (record { session = 0; ask = asked })))
TakesAsk before after old new (Err end.Done) = TakesNext Alone before after old new (Ok None)
TakesAsk before after old new (Err end.Cut) = TakesNext Alone before after old new (Err halts.Cut)
TakesAsk before after old new (Err end.Over) = TakesNext Alone before after old new (Err halts.Over)
TakesAsk before after old new (Err end.Read) = TakesNext Alone before after old new (Err halts.Read)
TakesAsk before after old new (Err end.NoMemory) = TakesNext Alone before after old new (Err halts.NoMemory)
TakesAsk before after old new (Err end.Write) = ⊥

-- ---- the whole service

-- a link was served, with these bytes and this end, in exchanges of its session whose steps are all that the pass did:
-- what it knew, v, became w
pub record ServesBy (s : Streams) (v w : View) (ended : LinkEnd) : Type 0 where
  pub exchanges : List Exchange
  pub last : State
  pub serves : ServesLink v.places s exchanges ended
  pub steps : Steps v opening exchanges w last
